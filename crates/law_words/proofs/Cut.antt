-- A text cut at a byte: the parts of joined parts are these.
use Rattle.std.proofs.lemmas.Bool.{cases_Bool}
use Rattle.std.proofs.Common.{◌≡◌, refl, ap, ◌∙◌, ◌<◌, ◌≤◌, ℕ, Bool, true, false, List, [], ◌∷◌, ◌++◌, arith, inl, inr}
use Rattle.std.proofs.lemmas.Bool.Decides.{nat_tests}
use Rattle.std.specs.Prelude.{◌==◌, ◌&&◌, not, nat_lt, if◌then◌else◌, length}
use Rattle.pg_lemmas.proofs.Bools.{both, not_true}
use Rattle.pg_lemmas.proofs.Bools.{both_of}
use Rattle.pg_scan.specs.Parts.{parts_of}
use Rattle.pg_scaled.proofs.ReadsBack.{AreDigits}
use Rattle.pg_scan.specs.Lines.{onto_first}

-- parts with a separator between each two
abbrev pub joined : ℕ → List (List ℕ) → List ℕ
joined separator [] = []
joined separator (part ∷ []) = part
joined separator (part ∷ next ∷ parts) = part ++ separator ∷ joined separator (next ∷ parts)

pub onto_joined : (s c : ℕ) (parts : List (List ℕ)) → joined s (onto_first c parts) ≡ c ∷ joined s parts
onto_joined s c [] = refl
onto_joined s c (part ∷ []) = refl
onto_joined s c (part ∷ next ∷ parts) = refl

pub further_parts : (s : ℕ) (part : List ℕ) (parts : List (List ℕ)) → 0 < length parts →
    joined s (part ∷ parts) ≡ part ++ s ∷ joined s parts
further_parts s part [] some = absurd (omega arith)
further_parts s part (next ∷ parts) some = refl

pub parts_some : (s : ℕ) (text : List ℕ) → 0 < length (parts_of s text)
unfolding parts_of
parts_some s [] = omega arith
parts_some s (c ∷ cs) = by (c == s) (parts_of s cs)
  where
    by : (b : Bool) (parts : List (List ℕ)) → 0 < length (if b then [] ∷ parts else onto_first c parts)
    by true parts = omega arith
    by false [] = omega arith
    by false (part ∷ parts) = omega arith

-- the parts of a text, joined again, are the text
pub parts_joined : (s : ℕ) (text : List ℕ) → joined s (parts_of s text) ≡ text
unfolding parts_of
parts_joined s [] = refl
parts_joined s (c ∷ cs) = elim (cases_Bool (c == s)) [
  | inl cut ↦ let same : s ≡ c = grind (arith, nat_tests, cut) in
      rw cut (further_parts s [] (parts_of s cs) (parts_some s cs) ∙ ap (λ (t : List ℕ). s ∷ t) (parts_joined s cs)
      ∙ ap (λ (x : ℕ). x ∷ cs) same)
  | inr other ↦ rw other (onto_joined s c (parts_of s cs) ∙ ap (λ (t : List ℕ). c ∷ t) (parts_joined s cs))
]

-- the byte does not stand in the text
abbrev pub lacks : ℕ → List ℕ → Bool
lacks s [] = true
lacks s (c ∷ cs) = not (c == s) && lacks s cs

pub lacks_append : (s : ℕ) (a b : List ℕ) → lacks s a ≡ true → lacks s b ≡ true → lacks s (a ++ b) ≡ true
lacks_append s [] b h k = k
lacks_append s (c ∷ cs) b h k =
    let t = both_of (not (c == s)) (lacks s cs) h in
    both (not (c == s)) (lacks s (cs ++ b)) t.0 (lacks_append s cs b t.1 k)

pub digits_lack : (s : ℕ) → s < 48 → (ds : List ℕ) → AreDigits ds → lacks s ds ≡ true
digits_lack s small [] h = refl
digits_lack s small (d ∷ ds) h = both (not (d == s)) (lacks s ds) (differ d h.0) (digits_lack s small ds h.2)
  where
    differ : (d : ℕ) → 48 ≤ d → not (d == s) ≡ true
    differ d low = grind (arith, nat_tests)

pub part_here : (s : ℕ) (a b : List ℕ) → lacks s a ≡ true → parts_of s (a ++ s ∷ b) ≡ a ∷ parts_of s b
unfolding parts_of
part_here s [] b h = let e : (s == s) ≡ true = grind (arith, nat_tests) in rw e refl
part_here s (c ∷ cs) b h =
    let t = both_of (not (c == s)) (lacks s cs) h in
    let e : (c == s) ≡ false = not_true (c == s) t.0 in
    rw (e, part_here s cs b t.1) refl

pub part_last : (s : ℕ) (a : List ℕ) → lacks s a ≡ true → parts_of s a ≡ a ∷ []
unfolding parts_of
part_last s [] h = refl
part_last s (c ∷ cs) h =
    let t = both_of (not (c == s)) (lacks s cs) h in
    let e : (c == s) ≡ false = not_true (c == s) t.0 in
    rw (e, part_last s cs t.1) refl

-- the byte stands in none of the texts
abbrev pub AllLack : ℕ → List (List ℕ) → Type 0
AllLack s [] = Unit {0}
AllLack s (word ∷ words) = (lacks s word ≡ true) × AllLack s words

pub joined_parts : (s : ℕ) (word : List ℕ) (words : List (List ℕ)) → AllLack s (word ∷ words) →
    parts_of s (joined s (word ∷ words)) ≡ word ∷ words
joined_parts s word [] h = part_last s word h.0
joined_parts s word (next ∷ words) h =
    part_here s word (joined s (next ∷ words)) h.0
    ∙ ap (λ (ps : List (List ℕ)). word ∷ ps) (joined_parts s next words h.1)

-- what stands in none of the words and is not what joins them is not in the whole
pub joined_lacks : (t s : ℕ) (words : List (List ℕ)) → (s == t) ≡ false → AllLack t words →
    lacks t (joined s words) ≡ true
joined_lacks t s [] e h = refl
joined_lacks t s (word ∷ []) e h = h.0
joined_lacks t s (word ∷ next ∷ words) e h =
    let more : lacks t (joined s (next ∷ words)) ≡ true = joined_lacks t s (next ∷ words) e h.1 in
    let behind : lacks t (s ∷ joined s (next ∷ words)) ≡ true = rw e more in
    lacks_append t word (s ∷ joined s (next ∷ words)) h.0 behind

-- each byte is above a blank
abbrev pub is_dark : List ℕ → Bool
is_dark [] = true
is_dark (c ∷ cs) = nat_lt 32 c && is_dark cs

pub dark_lacks : (s : ℕ) → s ≤ 32 → (text : List ℕ) → is_dark text ≡ true → lacks s text ≡ true
dark_lacks s low [] h = refl
dark_lacks s low (c ∷ cs) h =
    let t = both_of (nat_lt 32 c) (is_dark cs) h in
    both (not (c == s)) (lacks s cs) (differ c t.0) (dark_lacks s low cs t.1)
  where
    differ : (c : ℕ) → nat_lt 32 c ≡ true → not (c == s) ≡ true
    differ c less = grind (arith, nat_tests)
