-- The first labels that are below a block, as they are counted one by one.
use Rattle.std.proofs.Common.{◌≡◌, refl, subst, ℕ, ◌+◌, ◌<◌, ◌≤◌, List, length, get_or, Some, arith}
use Rattle.std.specs.Prelude.{slice_get}
use Rattle.std.specs.Ordering.{nat_cmp}
use Rattle.std.proofs.lemmas.Cmp.{by_ranked, ranked}
use Rattle.std.proofs.lemmas.Option.{get_or_from_slice_get, slice_get_within}
use Rattle.pg_table.specs.Space.{Meaning}
use Rattle.pg_table.specs.Below.{IsFront}
use Rattle.pg_table.specs.declared.table.Entry.{Entry}

module _ {S M K : Type 0} (sp : Meaning S M K) (below : ℕ) (es : List (Entry S M)) where
  -- the first labels, so many, are below
  abbrev AreBelow : ℕ → Type 0
  AreBelow n = (i : ℕ) (e : Entry S M) → slice_get es i ≡ Some e → i < n → sp.block e.state + 1 < below

  -- so is one label more
  pub front_more : (n : ℕ) (x : Entry S M) → sp.block (get_or es n x).state + 1 < below →
      AreBelow n → AreBelow (n + 1)
  front_more n x less low i e at within =
      by_ranked (i < n) (i ≡ n) (n < i) (nat_cmp i n) (ranked i n (nat_cmp i n) refl)
      (λ _ h. low i e at h)
      (λ _ h. subst (λ z. sp.block z.state + 1 < below)
      (get_or_from_slice_get es n e x (subst (λ k. slice_get es k ≡ Some e) h at)) less)
      (λ _ h. absurd (omega (arith, within, h)))

  -- it ends where a label is not below
  pub front_ends : (n : ℕ) (x : Entry S M) → n < length es →
      below ≤ sp.block (get_or es n x).state + 1 → AreBelow n → IsFront sp below es n
  front_ends n x within high low = record {
    within = omega (arith, within);
    low = low;
    next = λ e at. subst (λ z. below ≤ sp.block z.state + 1) (get_or_from_slice_get es n e x at) high;
  }

  -- or where there is none
  pub front_all : (n : ℕ) → n ≤ length es → length es ≤ n → AreBelow n → IsFront sp below es n
  front_all n within all low = record {
    within = within;
    low = low;
    next = λ e at. absurd (omega (arith, all, slice_get_within es n e at));
  }
