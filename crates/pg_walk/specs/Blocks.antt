-- The greatest block that columns from a place come to.
use Rattle.std.specs.Prelude.{◌≡◌, ◌⊎◌, ℕ, List, [], true, Option, Some, None, IfSome, ℤ}
use Rattle.pg_column.specs.Passed.{nothing}
use Rattle.pg_list.specs.declared.blocks.Block.{Block}
use Rattle.pg_list.specs.declared.galley.Place.{Place}
use Rattle.pg_rules.specs.Room.{Document}
use Rattle.pg_hops.specs.View.{view}
use Rattle.pg_hops.specs.declared.passed.Passed.{Passed}
use Rattle.pg_hops.specs.declared.state.State.{State}
use Rattle.pg_walk.specs.Furthest.{GoesTo}
use Rattle.pg_walk.specs.Meaning.{IsOwn}
use Rattle.pg_candidates.specs.View.{passed_of}
use Rattle.pg_candidates.specs.declared.along.Walked.{Walked}
use Rattle.law_walk.specs.Reached.{first_reach, quiet}
use Rattle.law_walk.specs.Walk.{first_front, first_items, past_stretch, variants_at}

-- before a front with what was passed
abbrev pub state : ℕ → Passed → State
state block passed = record { block = block; passed = passed }

-- the greatest block along the first stretch, which is not passed or has no choice behind it
pub record IsAlone (doc : Document) (top : ℤ) (from : Place) (n : ℕ) : Type 0 where
  pub is : n ≡ first_reach doc top from
  pub last : (past_stretch doc top nothing (first_items doc.blocks from) ≡ None)
      ⊎ (variants_at doc.blocks (first_front doc.blocks from) ≡ [])

-- a walk along the first stretch tells the greatest block of one without notes, which stops where it stops
pub record TellsQuiet (doc : Document) (top : ℤ) (from : Place) (walked : Walked) : Type 0 where
  pub greatest : walked.greatest ≡ first_reach (quiet doc) top from
  pub stops : passed_of walked.state ≡ None →
      past_stretch (quiet doc) top nothing (first_items doc.blocks from) ≡ None

-- what a walk along the first stretch tells: what was passed with the front behind it, which is a state of the walk, and
-- where the notes passed take no room, what a walk without notes tells
pub record HasWalked (doc : Document) (top : ℤ) (from : Place) (walked : Walked) : Type 0 where
  pub past : passed_of walked.state ≡ past_stretch doc top nothing (first_items doc.blocks from)
  pub front : IfSome walked.state (λ s. s.block ≡ first_front doc.blocks from)
  pub own : IfSome walked.state (IsOwn doc top)
  pub quiet : walked.is_quiet ≡ true → TellsQuiet doc top from walked

-- the state behind the first stretch, if it is passed
pub record HasStart (doc : Document) (top : ℤ) (from : Place) (start : Option State) : Type 0 where
  pub past : passed_of start ≡ past_stretch doc top nothing (first_items doc.blocks from)
  pub front : IfSome start (λ s. s.block ≡ first_front doc.blocks from)
  pub own : IfSome start (IsOwn doc top)

-- no choice stands behind the state, if there is one
abbrev pub IsLast : List Block → Option State → Type 0
IsLast blocks None = Unit {0}
IsLast blocks (Some start) = variants_at blocks start.block ≡ []

-- where the first stretch is all there is, this is the greatest block of columns without notes, if it is told
abbrev pub TellsAlone : Document → ℤ → Place → Option State → Option ℕ → Type 0
TellsAlone doc top from start told =
    (passed_of start ≡ None) ⊎ (variants_at doc.blocks (first_front doc.blocks from) ≡ []) →
    IfSome told (IsAlone (quiet doc) top from)

-- the state behind the first stretch, where it is passed
pub record IsBegun (doc : Document) (top : ℤ) (from : Place) (start : State) : Type 0 where
  pub own : IsOwn doc top start
  pub front : start.block ≡ first_front doc.blocks from
  pub past : Some (view start.passed) ≡ past_stretch doc top nothing (first_items doc.blocks from)

-- the greatest block along the first stretch and along the picks at the fronts behind it
pub record IsByPicks (doc : Document) (top : ℤ) (from : Place) (n : ℕ) : Type 0 where
  pub start : State
  pub front : start.block ≡ first_front doc.blocks from
  pub past : Some (view start.passed) ≡ past_stretch doc top nothing (first_items doc.blocks from)
  pub goes : GoesTo doc top start (first_reach doc top from) n

-- the greatest block of the walk from a place
abbrev pub IsGreatestFrom : Document → ℤ → Place → ℕ → Type 0
IsGreatestFrom doc top from n = IsAlone doc top from n ⊎ IsByPicks doc top from n
