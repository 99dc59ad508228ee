-- Labels looked at one after another, until one is so.
use Rattle.std.proofs.Common.{◌≡◌, refl, subst, ◌∙◌, ℕ, ◌+◌, ◌<◌, ◌≤◌, List, length, Bool, true, false, Some, arith}
use Rattle.std.specs.Prelude.{Contains, slice_get, slice_index_or}
use Rattle.std.specs.Bool.{Decides}
use Rattle.std.specs.Ordering.{nat_cmp}
use Rattle.std.proofs.lemmas.Cmp.{by_ranked, ranked}
use Rattle.std.proofs.lemmas.Option.{get_or_from_slice_get, same_Some, slice_get_read, slice_get_within}
use Rattle.pg_plan.specs.declared.states.Label.{Label}
use Rattle.pg_table.proofs.Lists.{at_contains, contains_at}
use Rattle.law_check.specs.Faults.{IsFirst}
use Rattle.pg_labelcheck.specs.Tested.{AllBefore}

module _ (P : Label → Type 0) (labels : List Label) where
  pub before_more : (n : ℕ) (x : Label) → x ≡ slice_index_or labels n x → P x → AllBefore P labels n →
      AllBefore P labels (n + 1)
  before_more n x is p old = record { all = each }
    where
      each : (i : ℕ) (label : Label) → i < n + 1 → slice_get labels i ≡ Some label → P label
      each i label less at = by_ranked (i < n) (i ≡ n) (n < i) (nat_cmp i n) (ranked i n (nat_cmp i n) refl)
          (λ _ h. old.all i label h at)
          (λ _ h. subst P (is ∙ get_or_from_slice_get labels n label x
          (subst (λ (k : ℕ). slice_get labels k ≡ Some label) h at)) p)
          (λ _ h. absurd (omega arith))

  pub before_last : (n : ℕ) → length labels ≤ n → AllBefore P labels n → (label : Label) → Contains labels label →
      P label
  before_last n long old label c = by (at_contains labels label c)
    where
      by : (i : ℕ) × (slice_get labels i ≡ Some label) → P label
      by (i, at) = let h : i < length labels = slice_get_within labels i label at in
          old.all i label (omega arith) at

pub is_among : (labels : List Label) (n : ℕ) (x : Label) → n < length labels → x ≡ slice_index_or labels n x →
    Contains labels x
is_among labels n x within is = contains_at labels n x (slice_get_read labels (length labels) n x refl within is)

-- the label at this index is the first
pub first_is : (P : Label → Type 0) (labels : List Label) (n : ℕ) (x : Label) (k : ℕ) → n < length labels →
    x ≡ slice_index_or labels n x → P x → AllBefore (λ l. P l → ⊥) labels n → Some n ≡ Some k →
    IsFirst P labels (k + 1)
first_is P labels n x k within is p before e = subst (λ (j : ℕ). IsFirst P labels (j + 1)) (same_Some n k e) (record {
  index = n;
  numbered = refl;
  label = x;
  at = slice_get_read labels (length labels) n x refl within is;
  holds = p;
  before = before.all;
})

-- what is not so, by its test
pub decided_not : (b : Bool) (P : Type 0) → Decides b P → b ≡ false → P → ⊥
decided_not true P d f p = absurd cc
decided_not false P d f p = no_true (d.1 p)
  where
    no_true : false ≡ true → ⊥
    no_true e = absurd cc
