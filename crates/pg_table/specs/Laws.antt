-- What a table says of all runs of a space.
use Rattle.std.specs.Prelude.{◌≡◌, ℕ, true, List, Some, None, pos, slice_get, Contains}
use Rattle.pg_table.specs.Space.{Meaning, Reached, IsRun, Better, Undercuts}
use Rattle.pg_table.specs.Label.{RunOf, reached}
use Rattle.pg_table.specs.declared.table.Entry.{Entry}

-- the run of the label at this place undercuts each run that ends done
pub record UndercutsDone {S M K : Type 0} (sp : Meaning S M K) (es : List (Entry S M)) (i : ℕ) : Type 0 where
  pub undercuts : (e : Entry S M) (ms : List M) (r : Reached S M) → slice_get es i ≡ Some e → RunOf es e ms →
      IsRun sp r → sp.is_done r.state ≡ true → Undercuts sp.order e.cost ms r.cost r.moves

-- no run ends done
pub record NoRunDone {S M K : Type 0} (sp : Meaning S M K) : Type 0 where
  pub none : (r : Reached S M) → IsRun sp r → sp.is_done r.state ≡ true → ⊥

-- the labels are the runs that no other betters
pub record AreUnbettered {S M K : Type 0} (sp : Meaning S M K) (es : List (Entry S M)) : Type 0 where
  pub label : (e : Entry S M) (ms : List M) (r : Reached S M) → Contains es e → RunOf es e ms →
      IsRun sp r → Better sp r (reached e ms) → r ≡ reached e ms
  pub every : (r : Reached S M) → IsRun sp r → ((q : Reached S M) → IsRun sp q → Better sp q r → q ≡ r) →
      (e : Entry S M) × ((ms : List M) × (Contains es e × RunOf es e ms × (reached e ms ≡ r)))

-- the first entry is that of the start
pub record BeginsWithStart {S M K : Type 0} (sp : Meaning S M K) (es : List (Entry S M)) : Type 0 where
  pub entry : Entry S M
  pub is : slice_get es 0 ≡ Some entry
  pub by : entry.by ≡ None
  pub parent : entry.parent ≡ 0
  pub state : entry.state ≡ sp.start
  pub cost : entry.cost ≡ pos 0
