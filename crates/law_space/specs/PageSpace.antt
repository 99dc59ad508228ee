-- Pages as a space: states of beginnings, columns as moves.
use Rattle.std.specs.Prelude.{ℕ, ◌+◌, ◌*◌, ◌^◌, ◌==◌, if◌then◌else◌, [], ℤ}
use Rattle.std.specs.List.{sum_by}
use Rattle.std.specs.Option.{option_map_or}
use Rattle.pg_list.specs.declared.galley.Place.{Place}
use Rattle.pg_plan.specs.declared.pages.PageMove.{PageMove}
use Rattle.pg_plan.specs.Order.{column_cmp}
use Rattle.pg_plan.specs.declared.states.Side.TheVariants.{R}
use Rattle.pg_plan.specs.declared.states.State.{State}
use Rattle.pg_rules.specs.Follow.{Follow, context_in}
use Rattle.pg_rules.specs.Room.{Document}
use Rattle.pg_rules.specs.BestPicks.{IsLeast}
use Rattle.pg_rules.specs.States.{state_at, is_done}
use Rattle.pg_plan.specs.declared.states.PageKey.{PageKey}
use Rattle.pg_rules.specs.NoWorse.{key, is_no_worse, is_same_side}
use Rattle.pg_table.specs.Narrower.{narrowed}
use Rattle.pg_table.specs.Space.{Meaning}
use Rattle.pg_rules.specs.IsState.{IsState}
use Rattle.law_space.specs.ReachAt.{reach_at}

-- the block, the variant and the index of a place as one number, the block first
abbrev pub place_rank : Place → ℕ
place_rank at = 2 ^ 20 * (2 ^ 3 * at.block + at.variant) + at.index

-- the run, or that there is none, and whether the side is a right one: a number below 16
abbrev pub side_run : State → ℕ
side_run u = 2 * option_map_or (λ (run : ℕ). run + 1) u.run 0 + (if is_same_side u.side R then 1 else 0)

-- by place, then by how many floats are placed, then the second column before the first of the next page; the run and the
-- side stand below these, so that the states of a place that may share a key come one after another
abbrev pub rank : Document → State → ℕ
rank doc u = 2 ^ 18 * place_rank u.place + 32 * sum_by (λ (n : ℕ). n) u.placed + (if u.column == 1 then 16 else 0)
    + side_run u

-- the column follows, with the best picks for its end and fitness
pub record FollowBest (doc : Document) (u : State) (m : PageMove) (v : State) (cost : ℤ) : Type 0 where
  pub follow : Follow doc u m v cost
  pub least : IsLeast (context_in doc u m)

-- every column that may follow
abbrev pub wide_meaning : Document → Meaning State PageMove PageKey
wide_meaning doc = record {
  start = state_at doc [];
  Own = IsState doc;
  Follow = Follow doc;
  key = key;
  rank = rank doc;
  block = λ u. u.place.block;
  reach = λ u. reach_at doc u.place;
  is_done = is_done doc;
  no_worse = is_no_worse;
  order = column_cmp;
}

-- those with best picks
abbrev pub page_meaning : Document → Meaning State PageMove PageKey
page_meaning doc = narrowed (wide_meaning doc) (FollowBest doc)
