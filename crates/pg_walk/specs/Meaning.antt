-- The walk as a space over its states in code, which count the items passed.
use Rattle.std.specs.Prelude.{◌≡◌, ◌≤◌, ℕ, ◌+◌, ◌^◌, true, false, if◌then◌else◌, List, [], ◌∷◌, ◌++◌, length, drop, Option, option_map, ℤ, pos}
use Rattle.std.specs.Option.{option_map_or}
use Rattle.std.specs.Ordering.{nat_cmp}
use Rattle.std.proofs.Props.{props}
use Rattle.pg_list.specs.Counts.{item_count}
use Rattle.pg_list.specs.declared.variants.Variant.{Variant}
use Rattle.pg_column.specs.Judged.{is_loose_enough}
use Rattle.pg_column.specs.Passed.{Passed, fits}
use Rattle.pg_rules.specs.Room.{Document}
use Rattle.pg_hops.specs.View.{IsFor, view}
use Rattle.pg_hops.specs.declared.state.State.{State}
use Rattle.pg_table.specs.Space.{Meaning}
use Rattle.pg_table.specs.declared.step.Step.{Step}
use Rattle.law_walk.specs.Reached.{greatest_from, reach_along}
use Rattle.law_walk.specs.Space.{Picks, WalkState, is_no_worse}
use Rattle.law_walk.specs.Walk.{past_stretch, picked_front, picked_stretch, variants_at}
use Rattle.pg_walk.specs.declared.space.Key.{Key}

-- a state of the walk
abbrev pub state_of : State → WalkState
state_of u = record { block = u.block; passed = view u.passed }

-- its front and sums
abbrev pub key_of : State → Key
key_of u = record { block = u.block; totals = u.passed.sums.totals }

-- one pick on, with as many more items counted
pub record Leads (doc : Document) (top : ℤ) (u : State) (pick : ℕ) (v : State) (cost : ℤ) : Type 0 where
  pub picks : Picks doc top (state_of u) pick (state_of v) cost
  pub topskip : v.passed.sums.topskip ≡ u.passed.sums.topskip
  pub maxdepth : v.passed.sums.maxdepth ≡ u.passed.sums.maxdepth
  pub sums : v.passed.sums.count ≡ u.passed.sums.count + length (picked_stretch doc.blocks u.block pick)
  pub notes : v.passed.notes.count ≡ u.passed.notes.count + length (picked_stretch doc.blocks u.block pick)

-- at a front, kept for the style, where some room lets pass, and the items counted with those ahead are few
pub record IsOwn (doc : Document) (top : ℤ) (u : State) : Type 0 where
  pub block : u.block ≤ length doc.blocks
  pub style : IsFor doc.style u.passed
  pub bound : fits u.passed.bound top ≡ true
  pub sums : u.passed.sums.count + item_count (drop u.block doc.blocks) ≤ 2 ^ 20
  pub notes : u.passed.notes.count + item_count (drop u.block doc.blocks) ≤ 2 ^ 20

pub IsOwn_prop : (doc : Document) (top : ℤ) (u : State) → IsProp (IsOwn doc top u)
IsOwn_prop doc top u = hlevel props

-- the greatest block along the stretch of a pick at a front
abbrev pub reach_by : Document → ℤ → WalkState → ℕ → ℕ
reach_by doc top u pick =
    reach_along doc top (picked_front doc.blocks u.block) u.passed (picked_stretch doc.blocks u.block pick)

-- the greatest of a front and of the blocks along the stretches of all picks there, loose enough or not
abbrev pub greatest_behind : Document → ℤ → WalkState → ℕ
greatest_behind doc top u =
    greatest_from (reach_by doc top u) u.block 0 (length (variants_at doc.blocks u.block))

-- the walk from a state
abbrev pub space_meaning : Document → ℤ → State → Meaning State ℕ Key
space_meaning doc top start = record {
  start = start;
  Own = IsOwn doc top;
  Follow = Leads doc top;
  key = key_of;
  rank = λ u. u.block;
  block = λ u. u.block;
  reach = λ u. greatest_behind doc top (state_of u) + 1;
  is_done = λ u. false;
  no_worse = λ u v. is_no_worse (state_of u) (state_of v);
  order = nat_cmp;
}

-- ---- its moves

-- the state behind a pick, with what was passed then
abbrev pub next_state : Document → State → ℕ → WalkState → State
next_state doc u pick w = record {
  block = w.block;
  passed = record {
    sums = record {
      topskip = u.passed.sums.topskip;
      maxdepth = u.passed.sums.maxdepth;
      count = u.passed.sums.count + length (picked_stretch doc.blocks u.block pick);
      totals = w.passed.totals;
    };
    notes = record {
      sums = w.passed.notes;
      count = u.passed.notes.count + length (picked_stretch doc.blocks u.block pick);
    };
    bound = w.passed.bound;
  };
}

-- the state behind a pick, where its stretch is passed
abbrev pub state_behind : Document → ℤ → State → ℕ → Option State
state_behind doc top u pick =
    option_map
    (λ (p : Passed). next_state doc u pick (record { block = picked_front doc.blocks u.block; passed = p }))
    (past_stretch doc top (view u.passed) (picked_stretch doc.blocks u.block pick))

-- the step by a pick that passes
abbrev pub step_by : ℕ → Variant → State → Step State ℕ
step_by pick variant to = record { to = to; by = pick; cost = pos variant.demerits }

-- the step by a pick, where its variant is loose enough and its stretch is passed
abbrev pub steps_by : Document → ℤ → State → ℕ → Variant → List (Step State ℕ)
steps_by doc top u pick variant =
    if is_loose_enough doc.style variant
    then option_map_or (λ (to : State). step_by pick variant to ∷ []) (state_behind doc top u pick) []
    else []

-- the steps by the picks from one on
abbrev pub steps_from : Document → ℤ → State → ℕ → List Variant → List (Step State ℕ)
steps_from doc top u pick [] = []
steps_from doc top u pick (variant ∷ variants) =
    steps_by doc top u pick variant ++ steps_from doc top u (pick + 1) variants
