-- The laws in the form of their contracts.
use Rattle.std.proofs.Common.{◌≡◌, ℕ, Bool, List, [], subst, sym, ◌∙◌, Some, None}
use Rattle.std.specs.Prelude.{ℤ, pos, slice_get}
use Rattle.pg_table.specs.Space.{Meaning, Lawful, Reached, IsRun, Undercuts}
use Rattle.pg_table.specs.Label.{RunOf, IsTable, IsBestOf, NoneDone}
use Rattle.pg_table.specs.Below.{IsRightBelow}
use Rattle.pg_table.specs.Narrower.{narrowed, IsNarrower, BetteredBy}
use Rattle.pg_table.specs.Laws.{UndercutsDone, NoRunDone, AreUnbettered, BeginsWithStart}
use Rattle.pg_table.specs.declared.table.Entry.{Entry}
use Rattle.pg_table.proofs.BelowLemmas.{right_below_none}
use Rattle.pg_table.proofs.BestLemmas.{best_of_runs, none_of_runs}
use Rattle.pg_table.proofs.FirstEntry.{first_is_start}
use Rattle.pg_table.proofs.Narrow.{bettered}
use Rattle.pg_table.proofs.Top.{best_wide, none_wide, label_unbettered, unbettered_label}
use Rattle.std.proofs.lemmas.Option.{same_Some}

module _ {S M K : Type 0} (eq : K → K → Bool) (sp : Meaning S M K) (law : Lawful eq sp)
    (es : List (Entry S M)) (table : IsTable sp es) where
  pub begins : BeginsWithStart sp es
  begins = by (first_is_start eq sp law es table)
    where
      by : (e : Entry S M) × ((slice_get es 0 ≡ Some e) × (e.by ≡ None) × (e.parent ≡ 0) ×
          (e.state ≡ sp.start) × (e.cost ≡ pos 0)) → BeginsWithStart sp es
      by (e, (is, none, parent, state, cost)) = record {
        entry = e;
        is = is;
        by = none;
        parent = parent;
        state = state;
        cost = cost;
      }

  pub best_undercuts : (i : ℕ) → IsBestOf sp es es i → UndercutsDone sp es i
  best_undercuts i b = record {
    undercuts = λ e ms r at of run done.
        let same : e ≡ b.entry = same_Some e b.entry (sym at ∙ b.is) in
        subst (λ x. RunOf es x ms → Undercuts sp.order x.cost ms r.cost r.moves) (sym same)
        (best_of_runs eq sp law es table i b r run done ms) of;
  }

  pub none_done : NoneDone sp es → NoRunDone sp
  none_done n = record { none = none_of_runs eq sp law es table n }

pub empty_right : {S M K : Type 0} (sp : Meaning S M K) (es : List (Entry S M)) → es ≡ [] →
    IsRightBelow sp 0 es
empty_right sp es e = subst (IsRightBelow sp 0) (sym e) (right_below_none sp)

module _ {S M K : Type 0} (eq : K → K → Bool) (big : Meaning S M K) (law : Lawful eq big) (Narrow : S → M →
    S → ℤ → Type 0) (narrow : IsNarrower big Narrow) where
  pub each_bettered : (r : Reached S M) → IsRun big r → BetteredBy big Narrow r
  each_bettered r run = bettered eq big law Narrow narrow r.moves r.state r.cost run

  module _ (es : List (Entry S M)) (table : IsTable (narrowed big Narrow) es) where
    pub wide_labels : AreUnbettered big es
    wide_labels = record {
      label = λ e ms r among of run better.
          label_unbettered eq big law Narrow narrow es table e ms r among of run better;
      every = λ r run only. unbettered_label eq big law Narrow narrow es table r run only;
    }

    pub wide_best : (i : ℕ) → IsBestOf (narrowed big Narrow) es es i → UndercutsDone big es i
    wide_best i b = record {
      undercuts = λ e ms r at of run done.
          let same : e ≡ b.entry = same_Some e b.entry (sym at ∙ b.is) in
          subst (λ x. RunOf es x ms → Undercuts big.order x.cost ms r.cost r.moves) (sym same)
          (best_wide eq big law Narrow narrow es table i b r run done ms) of;
    }

    pub wide_none : NoneDone (narrowed big Narrow) es → NoRunDone big
    wide_none n = record { none = none_wide eq big law Narrow narrow es table n }
