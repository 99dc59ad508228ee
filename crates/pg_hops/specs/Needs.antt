-- What a place asks of a room, by what was passed before it.
use Rattle.std.specs.Prelude.{◌≡◌, ◌<◌, ◌^◌, ◌≤◌, List, Some, ℤ, pos, is_none, nat_abs, ◌+ℤ◌, ◌-ℤ◌}
use Rattle.std.specs.Int.{int_min}
use Rattle.pg_style.specs.Values.{StyleValue}
use Rattle.pg_notes.specs.NotesValue.{first_over_limit, heights, skips}
use Rattle.pg_notes.specs.declared.sums.NoteSum.{NoteSum}
use Rattle.pg_column.specs.Passed.{Passed, least_room, raised}
use Rattle.pg_hops.specs.declared.needs.Needs.{Needs}
use Rattle.pg_hops.specs.declared.noted.Noted.{Noted}

-- the least room in which the items passed are not over, where their notes take so much, their skips shrunk
abbrev pub least_by : Passed → ℤ → ℤ
least_by p notes = int_min ((p.totals.total +ℤ notes) +ℤ pos 1) ((p.totals.total +ℤ notes) -ℤ p.totals.shrink)

-- what the notes passed take and what their skips give, and the bound past a break
pub record AreNeeds (style : StyleValue) (p : Passed) (needs : Needs) : Type 0 where
  pub notes : needs.notes ≡ pos (heights style.classes p.notes)
  pub give : needs.give ≡ skips style.classes p.notes
  pub bound : raised p.bound (least_room style p) ≡ Some needs.bound
  pub small : nat_abs needs.notes < 2 ^ 51
  pub stretch : nat_abs needs.give.stretch ≤ 2 ^ 34
  pub shrink : nat_abs needs.give.shrink ≤ 2 ^ 34

-- what the notes passed take, what their skips give, and whether no class of them is above its limit
pub record AreNoted (style : StyleValue) (notes : List NoteSum) (noted : Noted) : Type 0 where
  pub height : noted.height ≡ pos (heights style.classes notes)
  pub give : noted.give ≡ skips style.classes notes
  pub within : noted.is_within ≡ is_none (first_over_limit style.classes notes)
