-- A text and its parts: none is lost where it is cut.
use Rattle.std.proofs.Common.{◌≡◌, ◌∙◌, ◌<◌, ℕ, refl, ap, sym, arith, List, [], ◌∷◌, ◌++◌, length, Bool, true, false, inl, inr}
use Rattle.std.specs.Prelude.{IsTrue, ◌==◌, not, if◌then◌else◌}
use Rattle.std.specs.List.{AllByRecursion}
use Rattle.std.proofs.lemmas.Bool.{cases_Bool}
use Rattle.std.proofs.lemmas.Bool.Decides.{nat_tests}
use Rattle.pg_scan.specs.Lines.{onto_first}
use Rattle.pg_scan.specs.Parts.{parts_of, differs_from}
use Rattle.law_words.proofs.Cut.{joined, onto_joined, parts_joined, further_parts, parts_some}

-- a text is its first part, the separator and what stands behind it
pub first_part : (s : ℕ) (text part behind : List ℕ) → parts_of s text ≡ part ∷ parts_of s behind →
    text ≡ part ++ s ∷ behind
first_part s text part behind e = sym (parts_joined s text) ∙ ap (joined s) e
    ∙ further_parts s part (parts_of s behind) (parts_some s behind)
    ∙ ap (λ (t : List ℕ). part ++ s ∷ t) (parts_joined s behind)

pub only_part : (s : ℕ) (text part : List ℕ) → parts_of s text ≡ part ∷ [] → text ≡ part
only_part s text part e = sym (parts_joined s text) ∙ ap (joined s) e

-- no part has a separator
abbrev pub IsUncut : ℕ → List ℕ → Type 0
IsUncut s part = AllByRecursion (λ c. IsTrue (differs_from s c)) part

onto_uncut : (s c : ℕ) (parts : List (List ℕ)) → IsTrue (differs_from s c) → AllByRecursion (IsUncut s) parts →
    AllByRecursion (IsUncut s) (onto_first c parts)
onto_uncut s c [] h each = ((h, tt), tt)
onto_uncut s c (part ∷ parts) h each = ((h, each.0), each.1)

pub uncut : (s : ℕ) (text : List ℕ) → AllByRecursion (IsUncut s) (parts_of s text)
unfolding parts_of
uncut s [] = (tt, tt)
uncut s (c ∷ cs) = elim (cases_Bool (c == s)) [
  | inl cut ↦ rw cut (tt, uncut s cs)
  | inr other ↦ rw other (onto_uncut s c (parts_of s cs) (ap not other) (uncut s cs))
]
