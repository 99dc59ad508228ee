-- The room and the numbers of a column of text.
use Rattle.std.specs.Prelude.{◌≡◌, ◌<◌, ◌^◌, ℕ, ◌==◌, Bool, if◌then◌else◌, List, Some, ℤ, pos, ◌+ℤ◌, ◌-ℤ◌, nat_abs, unwrap_or}
use Rattle.pg_list.specs.Badness.{is_over}
use Rattle.pg_list.specs.Break.{break_penalty}
use Rattle.pg_style.specs.Plain.{plus_give}
use Rattle.pg_style.specs.Values.{StyleValue}
use Rattle.pg_style.specs.declared.style.Give.{Give}
use Rattle.pg_sums.specs.Step.{badness_by}
use Rattle.pg_sums.specs.declared.totals.Totals.{Totals}
use Rattle.pg_notes.specs.NotesValue.{heights, skips, smallest_by}
use Rattle.pg_notes.specs.declared.sums.NoteSum.{NoteSum}
use Rattle.pg_rules.specs.ColumnRules.{fitness_by, text_badness, text_fitness, text_goal, text_total}
use Rattle.pg_rules.specs.Cost.{break_demerits, text_demerits}
use Rattle.pg_rules.specs.Floats.{gap_stretch, gap_shrink}
use Rattle.pg_rules.specs.Room.{ColumnContext, areas_give, items_of, room}
use Rattle.pg_column.specs.declared.cost.TextCost.{TextCost}
use Rattle.pg_column.specs.declared.cost.TextRoom.{TextRoom}

-- ---- rooms

-- what the areas of a column leave to its text, and what their gaps give
abbrev pub text_room : ColumnContext → TextRoom
text_room it = record {
  size = room it;
  give = record { stretch = areas_give gap_stretch it; shrink = areas_give gap_shrink it };
}

-- the room where all gaps of the areas are shrunk
abbrev pub most_room : TextRoom → ℤ
most_room room = room.size +ℤ room.give.shrink

-- the numbers of a room are small
pub record IsRoom (room : TextRoom) : Type 0 where
  pub size : nat_abs room.size < 2 ^ 40
  pub stretch : nat_abs room.give.stretch < 2 ^ 40
  pub shrink : nat_abs room.give.shrink < 2 ^ 40

-- ---- from kept sums and kept notes

-- the room less the notes
abbrev pub goal_by : StyleValue → TextRoom → List NoteSum → ℤ
goal_by style room notes = room.size -ℤ pos (heights style.classes notes)

-- what the gaps of the areas and the skips of the notes give
abbrev pub give_by : StyleValue → TextRoom → List NoteSum → Give
give_by style room notes = plus_give room.give (skips style.classes notes)

-- the total is above what the notes leave of the room, all gaps shrunk, by more than the shrink
abbrev pub is_over_by : StyleValue → TextRoom → Totals → List NoteSum → Bool
is_over_by style room totals notes =
    is_over totals.total totals.shrink (most_room room -ℤ smallest_by style.classes notes)

-- how badly the sums fill a goal, beside what the gaps give
abbrev pub badness_for : StyleValue → ℤ → Give → Totals → Bool → ℕ
badness_for style goal give totals is_spent =
    badness_by is_spent goal (unwrap_or style.ragged (totals.finite +ℤ give.stretch)) (totals.shrink +ℤ give.shrink) totals

-- the numbers for a goal
abbrev pub cost_for : StyleValue → ℤ → Give → Totals → Bool → ℤ → TextCost
cost_for style goal give totals is_spent penalty = record {
  goal = goal;
  total = totals.total;
  badness = badness_for style goal give totals is_spent;
  fitness = if style.version == 1 then 2 else fitness_by totals.total goal (badness_for style goal give totals is_spent);
  penalty = penalty;
  demerits = break_demerits style (badness_for style goal give totals is_spent) penalty;
}

-- the numbers in a room
abbrev pub cost_by : StyleValue → TextRoom → Totals → List NoteSum → Bool → ℤ → TextCost
cost_by style room totals notes is_spent penalty =
    cost_for style (goal_by style room notes) (give_by style room notes) totals is_spent penalty

-- ---- by the rules

-- the numbers of a column of n items
pub record AreNumbers (it : ColumnContext) (n : ℕ) (numbers : TextCost) : Type 0 where
  pub goal : numbers.goal ≡ text_goal it n
  pub total : numbers.total ≡ text_total it n
  pub badness : numbers.badness ≡ text_badness it n
  pub fitness : numbers.fitness ≡ text_fitness it n
  pub penalty : Some numbers.penalty ≡ break_penalty (items_of it) n
  pub demerits : numbers.demerits ≡ text_demerits it n
