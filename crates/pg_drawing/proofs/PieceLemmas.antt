-- Lines that are counted, and what is cut of them.
use Rattle.std.proofs.Common.{◌≡◌, refl, ap, ℕ, suc, Bool, true, false, List, [], ◌∷◌, take, drop}
use Rattle.std.specs.Prelude.{if◌then◌else◌}
use Rattle.std.specs.Borrow.{Bor}
use Rattle.pg_drawing.specs.Pieces.{cut, inside_count, texts, until}

inside_by : (b : Bool) (P : List ℕ → Bool) (line : Bor (List ℕ)) (lines : List (Bor (List ℕ))) →
    texts (take (inside_count P (texts lines)) lines) ≡ until P (texts lines) →
    texts (take (if b then 0 else suc (inside_count P (texts lines))) (line ∷ lines))
    ≡ (if b then [] else line.now ∷ until P (texts lines))
inside_by true P line lines same = refl
inside_by false P line lines same = ap (λ (ls : List (List ℕ)). line.now ∷ ls) same

-- those that are counted are those before the first of the kind
pub counted_inside : (P : List ℕ → Bool) (lines : List (Bor (List ℕ))) →
    texts (take (inside_count P (texts lines)) lines) ≡ until P (texts lines)
counted_inside P [] = refl
counted_inside P (line ∷ lines) = inside_by (P line.now) P line lines (counted_inside P lines)

behind_by : (b : Bool) (P : List ℕ → Bool) (line : Bor (List ℕ)) (lines : List (Bor (List ℕ))) → P line.now ≡ b →
    cut P (texts lines) ≡ cut P (texts (drop (inside_count P (texts lines)) lines)) →
    cut P (texts (line ∷ lines))
    ≡ cut P (texts (drop (if b then 0 else suc (inside_count P (texts lines))) (line ∷ lines)))
behind_by true P line lines is same = refl
behind_by false P line lines is same = rw is same

-- nothing is cut at those that are counted
pub cut_behind : (P : List ℕ → Bool) (lines : List (Bor (List ℕ))) →
    cut P (texts lines) ≡ cut P (texts (drop (inside_count P (texts lines)) lines))
cut_behind P [] = refl
cut_behind P (line ∷ lines) = behind_by (P line.now) P line lines refl (cut_behind P lines)
