-- One more of a list behind the others.
use Rattle.std.proofs.Common.{◌≡◌, sym, ap, ◌∙◌, ℕ, suc, ◌+◌, ◌<◌, ◌≤◌, List, [], ◌∷◌, ◌++◌, append_assoc, append-nil, map, get_or, length, take, take_all, Bool, true, false, arith}
use Rattle.std.specs.Prelude.{if◌then◌else◌}
use Rattle.std.specs.List.{filter, flat_map, range_with_len}
use Rattle.std.proofs.lemmas.Grind.{flat_map-append}
use Rattle.std.proofs.lemmas.List.{flat_map_more}
use Rattle.std.proofs.lemmas.List.Elements.{filter-append}
use Rattle.std.proofs.Math.Seq.{take-suc}
use Rattle.pg_floats.proofs.Ranges.{next_map, next_range}

-- the image of one more number behind those of the numbers below it
pub map_next : {Y : Type 0} (f : ℕ → Y) (old mid new : List Y) (n : ℕ) (x : Y) →
    mid ≡ old ++ map f (range_with_len 0 n) → new ≡ mid ++ x ∷ [] → x ≡ f n →
    new ≡ old ++ map f (range_with_len 0 (n + 1))
map_next {Y} f old mid new n x p q r =
    q ∙ (ap (λ ys. ys ++ x ∷ []) p ∙ (append_assoc old (map f (range_with_len 0 n)) (x ∷ [])
    ∙ (ap (λ (y : Y). old ++ (map f (range_with_len 0 n) ++ y ∷ [])) r ∙ ap (λ ys. old ++ ys) (sym (next_map f n)))))

pub flat_next : {X Y : Type 0} (f : X → List Y) (old mid new : List Y) (xs : List X) (i : ℕ) (x : X) →
    i < length xs → get_or xs i x ≡ x → mid ≡ old ++ flat_map f (take i xs) → new ≡ mid ++ f x →
    new ≡ old ++ flat_map f (take (i + 1) xs)
flat_next f old mid new xs i x l e p q =
    let n : i + 1 ≡ suc i = omega arith in
    q ∙ ap (λ ys. ys ++ f x) p ∙ flat_map_more f old (take i xs) x
    ∙ ap (λ ys. old ++ flat_map f ys) (ap (λ z. take i xs ++ z ∷ []) (sym e) ∙ sym (take-suc xs i x l))
    ∙ ap (λ (k : ℕ). old ++ flat_map f (take k xs)) (sym n)

-- one more number, where it passes a test
pub taken_next : {Y : Type 0} (f : ℕ → List Y) (p : ℕ → Bool) (old mid new : List Y) (n : ℕ) →
    mid ≡ old ++ flat_map f (filter p (range_with_len 0 n)) →
    new ≡ mid ++ flat_map f (if p n then n ∷ [] else []) →
    new ≡ old ++ flat_map f (filter p (range_with_len 0 (n + 1)))
taken_next {Y} f p old mid new n h k =
    k ∙ (ap (λ ys. ys ++ flat_map f (if p n then n ∷ [] else [])) h
    ∙ (append_assoc old (flat_map f (filter p (range_with_len 0 n))) (flat_map f (if p n then n ∷ [] else []))
    ∙ (ap (λ ys. old ++ ys) (sym (flat_map-append f (filter p (range_with_len 0 n)) (if p n then n ∷ [] else [])))
    ∙ (ap (λ (ns : List ℕ). old ++ flat_map f ns) (sym (filter-append p (range_with_len 0 n) (n ∷ [])))
    ∙ ap (λ (ns : List ℕ). old ++ flat_map f (filter p ns)) (sym (next_range n))))))

-- no more behind the last
pub flat_all : {X Y : Type 0} (f : X → List Y) (old new : List Y) (xs : List X) (i : ℕ) → length xs ≤ i →
    new ≡ old ++ flat_map f (take i xs) → new ≡ old ++ flat_map f xs
flat_all f old new xs i l e = e ∙ ap (λ ys. old ++ flat_map f ys) (take_all i xs l)

-- a number by itself, where it passes a test
pub taken_one : {Y : Type 0} (f : ℕ → List Y) (old new : List Y) (n : ℕ) (t b : Bool) → t ≡ b → t ≡ true →
    new ≡ old ++ f n → new ≡ old ++ flat_map f (if b then n ∷ [] else [])
taken_one f old new n t b e h k =
    k ∙ (ap (λ ys. old ++ ys) (sym (append-nil (f n)))
    ∙ ap (λ (c : Bool). old ++ flat_map f (if c then n ∷ [] else [])) (sym h ∙ e))

-- where it does not
pub passed_one : {Y : Type 0} (f : ℕ → List Y) (old : List Y) (n : ℕ) (t b : Bool) → t ≡ b → t ≡ false →
    old ≡ old ++ flat_map f (if b then n ∷ [] else [])
passed_one f old n t b e h =
    sym (append-nil old) ∙ ap (λ (c : Bool). old ++ flat_map f (if c then n ∷ [] else [])) (sym h ∙ e)
