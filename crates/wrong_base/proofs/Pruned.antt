-- What a filled table, and a best label of it, may be.
use Rattle.std.proofs.Common.{◌≡◌, ◌≢◌, ◌⊎◌, inl, inr, true, ℕ, List, arith}
use Rattle.std.specs.Prelude.{Contains, ◌<ℤ◌}
use Rattle.std.proofs.lemmas.Int.{ints}
use Rattle.pg_table.specs.Label.{IsBestOf, IsTable, RunOf, reached}
use Rattle.pg_table.specs.Space.{Better, IsRun, Meaning, Reached}
use Rattle.pg_table.specs.declared.table.Entry.{Entry}

module _ {S M K : Type 0} (sp : Meaning S M K) (es : List (Entry S M)) where
  -- no label stands in a table that another run betters, so none beside a cheaper one that can do as much
  no_label_is_bettered : (label : Entry S M) (moves : List M) (other : Reached S M) → IsTable sp es →
      Contains es label → RunOf es label moves → IsRun sp other → Better sp other (reached label moves) →
      other ≢ reached label moves → ⊥
  no_label_is_bettered label moves other table among run_of run better differ =
      differ (table.least label moves other among run_of run better)

  -- no run is left out that no label betters, as one at a greater cost whose state is another one
  no_run_is_left_out : (run : Reached S M) → IsTable sp es → IsRun sp run →
      ((label : Entry S M) (moves : List M) → Contains es label → RunOf es label moves →
      Better sp (reached label moves) run → ⊥) → ⊥
  no_run_is_left_out run table is none =
      let by = table.covered run is in none by.entry by.moves by.among by.run_of by.better

  -- no done label is best beside a cheaper done one
  no_best_beside_a_cheaper : (ds : List (Entry S M)) (at : ℕ) (best : IsBestOf sp es ds at) (other : Entry S M)
      (moves others : List M) → Contains ds other → sp.is_done other.state ≡ true → RunOf es best.entry moves →
      RunOf es other others → other.cost <ℤ best.entry.cost → ⊥
  no_best_beside_a_cheaper ds at best other moves others among done run_of other_run cheaper =
      by ((best.first other among done).undercuts moves others run_of other_run)
    where
      by : {P : Type 0} → (best.entry.cost <ℤ other.cost) ⊎ ((best.entry.cost ≡ other.cost) × P) → ⊥
      by (inl less) = omega (arith, ints, less, cheaper)
      by (inr (same, later)) = omega (arith, ints, same, cheaper)
