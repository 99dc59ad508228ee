-- Which rule on its floats a column breaks, and what they pay.
use Rattle.std.specs.Option.{option_map_or}
use Rattle.std.specs.Prelude.{ℕ, Bool, ◌==◌, ◌&&◌, not, if◌then◌else◌, length, reverse, Option, Result, Ok, Err}
use Rattle.std.specs.List.{list_all, range_with_len}
use Rattle.pg_plan.specs.declared.pages.PageMove.{PageMove}
use Rattle.pg_style.specs.Values.{StyleValue}
use Rattle.pg_rules.specs.Floats.{float_numbers, floats, has_all, is_area_allowed, takes_wide, total_count}
use Rattle.pg_rules.specs.Room.{Document}
use Rattle.pg_judge.specs.Waits.{is_slot_called, prices_below, slot_price}
use Rattle.pg_judge.specs.declared.added.Counted.{Counted}
use Rattle.pg_judge.specs.declared.progress.Progress.{Progress}
use Rattle.pg_judge.specs.declared.seat.Seat.{Seat}

-- what the floats pay, or the first of rules 7 to 10 that is not kept
abbrev pub added_by : Bool → Bool → Bool → Option ℕ → Result ℕ ℕ
added_by counts dealt called price =
    if not counts then Err 7
    else (if not dealt then Err 8
    else (if not called then Err 9
    else option_map_or (λ (it : ℕ). Ok it) price (Err 10)))

-- each area of a column behind others has a count for each class, of floats that may stand there, and not too many
abbrev pub counts_test : StyleValue → Progress → PageMove → Seat → Bool
counts_test style it m seat =
    ((length m.column.top == it.slots) && (length m.column.bottom == it.slots)
    && seat.is_top_allowed && seat.is_bottom_allowed)
    && ((length m.wide == length (float_numbers style)) && (if it.column == 1
    then is_area_allowed style takes_wide style.wide.count m.wide else total_count m.wide == 0))

-- each class has the floats that the column deals out
abbrev pub deals_test : Document → Progress → PageMove → Counted → Bool
deals_test doc it m counted =
    has_all (floats doc.blocks doc.style) it.placed m.wide
    && (has_all (floats doc.blocks doc.style) counted.before m.column.top
    && has_all (floats doc.blocks doc.style) counted.below m.column.bottom)

-- these are called before the column's end
abbrev pub calls_test : Document → Progress → PageMove → Counted → Bool
calls_test doc it m counted =
    list_all (is_slot_called doc m.column.to it.placed counted.after) (range_with_len 0 it.slots)

-- what they pay by the pages that they waited
abbrev pub waits_price : Document → Progress → Counted → Option ℕ
waits_price doc it counted = prices_below (slot_price doc (reverse it.turns.items) it.placed counted.after) it.slots
