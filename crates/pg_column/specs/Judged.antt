-- Which rule a column of text breaks first, and its numbers where it breaks none.
use Rattle.std.specs.Prelude.{◌≡◌, ℕ, Bool, true, ◌&&◌, ◌||◌, not, nat_le, if◌then◌else◌, List, [], ◌∷◌, replicate, Option, Some, None, is_some, is_none, Result, Ok, Err, ℤ, int_le, unsigned_abs}
use Rattle.std.specs.List.{list_all}
use Rattle.std.specs.Option.{option_map_or, option_or}
use Rattle.pg_list.specs.declared.blocks.Block.{Block}
use Rattle.pg_list.specs.declared.galley.Place.{Place}
use Rattle.pg_list.specs.declared.variants.Variant.{Variant}
use Rattle.pg_list.specs.Flat.{FlatItem, blocks_at, end_of, flat_items_at, is_same_place, picked_variants}
use Rattle.pg_style.specs.Values.{StyleValue}
use Rattle.pg_breaks.specs.Near.{place_penalty, place_forced, place_spent}
use Rattle.pg_sums.specs.Step.{counted, no_totals}
use Rattle.pg_sums.specs.declared.totals.Totals.{Totals}
use Rattle.pg_notes.specs.NotesValue.{first_over_limit}
use Rattle.pg_notes.specs.Step.{no_note, with_note}
use Rattle.pg_notes.specs.declared.sums.NoteSum.{NoteSum}
use Rattle.pg_rules.specs.ColumnRules.{is_well_formed, is_tolerable, passes_breaks, has_room, keeps_note_limits, keeps_looseness}
use Rattle.pg_rules.specs.Legal.{unless}
use Rattle.pg_rules.specs.Room.{ColumnContext, Document, size_of}
use Rattle.pg_column.specs.Numbers.{AreNumbers, badness_for, cost_by, give_by, goal_by, is_over_by}
use Rattle.pg_column.specs.Rules.{rule_number}
use Rattle.pg_column.specs.declared.cost.TextCost.{TextCost}
use Rattle.pg_column.specs.declared.cost.TextRoom.{TextRoom}
use Rattle.pg_column.specs.declared.rule.KeptRules.{KeptRules}
use Rattle.pg_column.specs.declared.rule.TextRule.{TextRule}
use Rattle.pg_column.specs.declared.rule.TextRule.TheVariants.{Shape, Tolerance, BreakInside, LeastText, NoteLimit, Looseness}

-- ---- by the rules

-- the least rule on its text that a column breaks
abbrev pub text_fault : ColumnContext → Option ℕ
text_fault it =
    option_or (unless (is_well_formed it) (rule_number Shape))
    (option_or (unless (is_tolerable it) (rule_number Tolerance))
    (option_or (unless (passes_breaks it) (rule_number BreakInside))
    (option_or (unless (has_room it) (rule_number LeastText))
    (option_or (unless (keeps_note_limits it) (rule_number NoteLimit))
    (unless (keeps_looseness it) (rule_number Looseness))))))

-- the numbers, or the least rule that is broken
abbrev pub Judges : ColumnContext → Result TextCost ℕ → Type 0
Judges it (Ok numbers) = (text_fault it ≡ None) × ((n : ℕ) → size_of it ≡ Some n → AreNumbers it n numbers)
Judges it (Err rule) = text_fault it ≡ Some rule

-- ---- by what is kept along the way

-- the sums and notes of the items so far, and whether no break among them behind a box is forced or over in the room
pub record Walked : Type 0 where
  pub totals : Totals
  pub notes : List NoteSum
  pub passes : Bool

-- of no items
abbrev pub started : Walked
started = record { totals = no_totals; notes = replicate 8 no_note; passes = true }

-- a break behind a box
abbrev pub is_break_by : List Block → Totals → Place → Bool
is_break_by blocks totals at = totals.has_box && is_some (place_penalty blocks at)

-- no break behind a box that is forced or over
abbrev pub may_pass : Document → TextRoom → Walked → Place → Bool
may_pass doc room w at = not (is_break_by doc.blocks w.totals at)
    || not (place_forced doc.blocks at || is_over_by doc.style room w.totals w.notes)

-- with one more item, and the break before it
abbrev pub walk_item : Document → TextRoom → Walked → FlatItem → Walked
walk_item doc room w x = record {
  totals = counted doc.style.topskip doc.style.maxdepth w.totals x.item;
  notes = with_note doc.style.classes w.notes x.item;
  passes = w.passes && may_pass doc room w x.place;
}

-- with the items up to a place, or up to the end
abbrev pub walk_to : Document → TextRoom → Bool → Place → Walked → List FlatItem → Walked
walk_to doc room is_end to w [] = w
walk_to doc room is_end to w (x ∷ xs) =
    if not is_end && is_same_place x.place to then w else walk_to doc room is_end to (walk_item doc room w x) xs

-- the looseness of a variant is within the style's
abbrev pub is_loose_enough : StyleValue → Variant → Bool
is_loose_enough style variant = nat_le (unsigned_abs variant.looseness) style.max_looseness

-- so is that of each variant picked
abbrev pub are_loose_enough : StyleValue → List Block → List ℕ → Bool
are_loose_enough style blocks picks = list_all (is_loose_enough style) (picked_variants blocks picks)

-- the end is forced, or the badness within the tolerance
abbrev pub is_tolerable_by : Document → TextRoom → Walked → Place → Bool
is_tolerable_by doc room w to = place_forced doc.blocks to
    || nat_le (badness_for doc.style (goal_by doc.style room w.notes) (give_by doc.style room w.notes) w.totals
    (place_spent doc.blocks to)) doc.style.tolerance

-- the least rule behind the third that is not kept
abbrev pub first_broken : KeptRules → Option TextRule
first_broken kept =
    if not kept.tolerance then Some Tolerance
    else (if not kept.breaks then Some BreakInside
    else (if not kept.room then Some LeastText
    else (if not kept.notes then Some NoteLimit
    else (if not kept.looseness then Some Looseness else None))))

-- its number, or else the numbers of the column
abbrev pub decided : KeptRules → TextCost → Result TextCost ℕ
decided kept cost = option_map_or (λ (rule : TextRule). Err (rule_number rule)) (first_broken kept) (Ok cost)

-- the penalty of a break behind a box
abbrev pub end_penalty : List Block → Walked → Place → Option ℤ
end_penalty blocks w to = if w.totals.has_box then place_penalty blocks to else None

-- the rules behind the third that the column up to a place keeps, where it is not over
abbrev pub kept_by : Document → TextRoom → Bool → Place → Walked → KeptRules
kept_by doc room loose to w = record {
  tolerance = is_tolerable_by doc room w to;
  breaks = w.passes;
  room = int_le doc.style.min_text room.size;
  notes = is_none (first_over_limit doc.style.classes w.notes);
  looseness = loose;
}

-- the verdict on the column up to a place, whose items were walked
abbrev pub verdict : Document → TextRoom → Bool → Place → Walked → Result TextCost ℕ
verdict doc room loose to w =
    option_map_or (λ (penalty : ℤ). if is_over_by doc.style room w.totals w.notes then Err (rule_number Tolerance)
    else decided (kept_by doc room loose to w)
    (cost_by doc.style room w.totals w.notes (place_spent doc.blocks to) penalty)) (end_penalty doc.blocks w to)
    (Err (rule_number Shape))

-- the verdict on the text from a place to another with these picks
abbrev pub verdict_on : Document → TextRoom → Place → List ℕ → Place → Result TextCost ℕ
verdict_on doc room from picks to =
    verdict doc room (are_loose_enough doc.style (blocks_at doc.blocks from) picks) to
    (walk_to doc room (is_same_place to (end_of doc.blocks)) to started (flat_items_at doc.blocks from picks))
