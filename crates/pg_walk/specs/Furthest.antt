-- The greatest block along the picks of labels.
use Rattle.std.specs.Prelude.{◌≡◌, ◌⊎◌, ◌<◌, ◌≤◌, ℕ, ◌+◌, List, length, Contains, ℤ}
use Rattle.pg_rules.specs.Room.{Document}
use Rattle.pg_hops.specs.declared.state.State.{State}
use Rattle.pg_table.specs.Label.{IsTable}
use Rattle.pg_table.specs.declared.table.Entry.{Entry}
use Rattle.law_walk.specs.Walk.{variants_at}
use Rattle.pg_walk.specs.Meaning.{greatest_behind, reach_by, space_meaning, state_of}

-- the greatest block along the stretch of a pick at the front of one of these labels
pub record IsByLabel (doc : Document) (top : ℤ) (some : List (Entry State ℕ)) (n : ℕ) : Type 0 where
  pub entry : Entry State ℕ
  pub pick : ℕ
  pub listed : Contains some entry
  pub there : pick < length (variants_at doc.blocks entry.state.block)
  pub is : n ≡ reach_by doc top (state_of entry.state) pick

-- the greatest of a block and of those along the stretches of these labels' picks
pub record IsFurthest (doc : Document) (top : ℤ) (some : List (Entry State ℕ)) (least n : ℕ) : Type 0 where
  pub one : (n ≡ least) ⊎ IsByLabel doc top some n
  pub above : least ≤ n
  pub labels : (m : ℕ) → IsByLabel doc top some m → m ≤ n

-- the same for all labels of a filled table
pub record GoesTo (doc : Document) (top : ℤ) (start : State) (least n : ℕ) : Type 0 where
  pub es : List (Entry State ℕ)
  pub table : IsTable (space_meaning doc top start) es
  pub furthest : IsFurthest doc top es least n

-- the reach of each label is one more than the greatest block along the stretches of the picks at its front
pub record AreTold (doc : Document) (top : ℤ) (es : List (Entry State ℕ)) : Type 0 where
  pub told : (e : Entry State ℕ) → Contains es e → e.reach ≡ greatest_behind doc top (state_of e.state) + 1
