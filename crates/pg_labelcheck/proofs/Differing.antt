-- Texts that differ in no line are the same; where one ends first, the other has a line more.
use Rattle.std.proofs.Common.{◌≡◌, refl, sym, ap, ◌∙◌, ℕ, ◌+◌, Bool, true, false, List, [], ◌∷◌, Option, Some, None, arith}
use Rattle.std.proofs.lemmas.Bool.Decides.{nat_tests}
use Rattle.std.proofs.lemmas.Slice.Eq.{bytes_eq-Decides}
use Rattle.std.specs.Option.{option_map}
use Rattle.std.specs.Prelude.{◌==◌, if◌then◌else◌, is_some}
use Rattle.std.specs.Str.{bytes_eq}
use Rattle.pg_scan.specs.Lines.{onto_first}
use Rattle.pg_scan.specs.Parts.{parts_of}
use Rattle.law_words.proofs.Cut.{joined, onto_joined, parts_joined}
use Rattle.pg_labels.specs.Reading.{lines_left}
use Rattle.pg_labels.proofs.Runs.{some_part}
use Rattle.law_check.specs.Faults.{first_difference}

-- ---- the end of one text

module _ {B : Type 0} (now : B → List ℕ) where
  -- something is left of the first text, and nothing of the second
  pub second_ends : (n : ℕ) (x : B) (other : Option B) → ((y : B) → other ≡ Some y → ⊥) →
      first_difference n (lines_left (Some (now x))) (lines_left (option_map now other)) ≡ Some n
  second_ends n x (Some y) none = absurd (none y refl)
  second_ends n x None none = by (some_part 10 (now x))
    where
      by : (part : List ℕ) × ((parts : List (List ℕ)) × (parts_of 10 (now x) ≡ part ∷ parts)) →
          first_difference n (parts_of 10 (now x)) [] ≡ Some n
      by (part, (parts, e)) = rw e refl

  -- nothing is left of the first text, and something of the second
  pub first_ends : (n : ℕ) (rest other : Option B) → ((x : B) → rest ≡ Some x → ⊥) → is_some other ≡ true →
      first_difference n (lines_left (option_map now rest)) (lines_left (option_map now other)) ≡ Some n
  first_ends n (Some x) other none some = absurd (none x refl)
  first_ends n None None none some = absurd cc
  first_ends n None (Some y) none some = by (some_part 10 (now y))
    where
      by : (part : List ℕ) × ((parts : List (List ℕ)) × (parts_of 10 (now y) ≡ part ∷ parts)) →
          first_difference n [] (parts_of 10 (now y)) ≡ Some n
      by (part, (parts, e)) = rw e refl

-- ---- texts with the same lines

lines_same : (n : ℕ) (xs ys : List (List ℕ)) → first_difference n xs ys ≡ None → xs ≡ ys
lines_same n [] [] e = refl
lines_same n [] (y ∷ ys) e = absurd cc
lines_same n (x ∷ xs) [] e = absurd cc
lines_same n (x ∷ xs) (y ∷ ys) e = by (bytes_eq x y) refl e (lines_same (n + 1) xs ys)
  where
    by : (b : Bool) → b ≡ bytes_eq x y → (if b then first_difference (n + 1) xs ys else Some n) ≡ None →
        (first_difference (n + 1) xs ys ≡ None → xs ≡ ys) → ◌≡◌ {A = List (List ℕ)} (x ∷ xs) (y ∷ ys)
    by true t e f = let p : x ≡ y = (bytes_eq-Decides x y).0 (sym t) in let q : xs ≡ ys = f e in cc
    by false t e f = absurd cc

-- texts that differ in no line are the same
pub text_same : (text other : List ℕ) → first_difference 1 (parts_of 10 text) (parts_of 10 other) ≡ None →
    text ≡ other
text_same text other e = sym (parts_joined 10 text)
    ∙ (ap (joined 10) (lines_same 1 (parts_of 10 text) (parts_of 10 other) e) ∙ parts_joined 10 other)
