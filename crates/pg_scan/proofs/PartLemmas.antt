-- The first part of a text that is cut at a byte.
use Rattle.std.proofs.Common.{◌≡◌, ◌∙◌, ◌≤◌, ◌<◌, ◌+◌, ℕ, suc, ap, sym, arith, List, [], ◌∷◌, refl, length, take, drop, true, false, subst, inl, inr, nat_eq, get_or}
use Rattle.std.proofs.Math.Bool.{and-false}
use Rattle.std.specs.Prelude.{◌==◌, None}
use Rattle.std.specs.List.{prefix_len}
use Rattle.std.proofs.lemmas.Bool.{cases_Bool}
use Rattle.pg_scan.specs.Lines.{onto_first}
use Rattle.pg_scan.specs.Parts.{after, parts_of, differs_from}

cut_step : (s c : ℕ) (cs : List ℕ) → (c == s) ≡ true → (prefix_len (differs_from s) (c ∷ cs) ≡ 0)
    × (parts_of s (c ∷ cs) ≡ [] ∷ parts_of s cs)
unfolding parts_of
cut_step s c cs e = (rw e refl, rw e refl)

other_step : (s c : ℕ) (cs : List ℕ) → (c == s) ≡ false
    → (prefix_len (differs_from s) (c ∷ cs) ≡ 1 + prefix_len (differs_from s) cs)
    × (parts_of s (c ∷ cs) ≡ onto_first c (parts_of s cs))
unfolding parts_of
other_step s c cs e = (rw e refl, rw e refl)

no_part : (s : ℕ) → parts_of s [] ≡ [] ∷ []
unfolding parts_of
no_part s = refl

-- a text without a separator is one part
pub one_part : (s : ℕ) (text : List ℕ) → length text ≤ prefix_len (differs_from s) text → parts_of s text ≡ text ∷ []
one_part s [] none = no_part s
one_part s (c ∷ cs) none = elim (cases_Bool (c == s)) [
  | inl cut ↦ let e = cut_step s c cs cut in absurd (omega (arith, e.0))
  | inr other ↦ let e = other_step s c cs other in e.1 ∙ ap (onto_first c) (one_part s cs (omega (arith, e.0)))
]

-- the first part of a text that has a separator
pub a_part : (s : ℕ) (text : List ℕ) (n : ℕ) → n ≡ prefix_len (differs_from s) text → n < length text
    → parts_of s text ≡ take n text ∷ parts_of s (drop (suc n) text)
a_part s [] n e some = absurd (omega arith)
a_part s (c ∷ cs) n e some = elim (cases_Bool (c == s)) [
  | inl cut ↦ let x = cut_step s c cs cut in let none : n ≡ 0 = e ∙ x.0 in
      subst (λ (k : ℕ). parts_of s (c ∷ cs) ≡ take k (c ∷ cs) ∷ parts_of s (drop (suc k) (c ∷ cs))) (sym none) x.1
  | inr other ↦ let x = other_step s c cs other in let k = prefix_len (differs_from s) cs in
      let here : n ≡ suc k = omega (arith, e, x.0) in
      let more = a_part s cs k refl (omega arith) in
      subst (λ (j : ℕ). parts_of s (c ∷ cs) ≡ take j (c ∷ cs) ∷ parts_of s (drop (suc j) (c ∷ cs))) (sym here)
      (x.1 ∙ ap (onto_first c) more)
]

-- a text of which the second byte is another does not stand in front
pub another_second : (name bytes : List ℕ) → 2 ≤ length name → nat_eq (get_or bytes 1 0) (get_or name 1 0) ≡ false
    → after name bytes ≡ None
unfolding after
another_second [] bytes long e = absurd (omega arith)
another_second (a ∷ []) bytes long e = absurd (omega arith)
another_second (a ∷ b ∷ cs) [] long e = refl
another_second (a ∷ b ∷ cs) (x ∷ []) long e = rw (and-false (nat_eq x a)) refl
another_second (a ∷ b ∷ cs) (x ∷ y ∷ ys) long e =
    rw (e, and-false (nat_eq x a)) refl
