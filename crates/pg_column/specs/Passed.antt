-- What is kept of the items that a column has passed: their sums, their notes, and the least room that lets it pass.
use Rattle.std.specs.Prelude.{◌≤◌, Bool, true, ◌&&◌, if◌then◌else◌, List, [], ◌∷◌, length, Option, Some, None, is_some, is_none, ℤ, pos, ◌+ℤ◌, ◌-ℤ◌, int_le}
use Rattle.std.specs.Prelude.{replicate}
use Rattle.std.specs.Int.{int_max, int_min}
use Rattle.std.specs.Option.{option_map_or}
use Rattle.pg_list.specs.declared.item.Item.{Item}
use Rattle.pg_list.specs.declared.blocks.Block.{Block}
use Rattle.pg_list.specs.declared.galley.Place.{Place}
use Rattle.pg_list.specs.Flat.{FlatItem}
use Rattle.pg_list.specs.Totals.{trimmed}
use Rattle.pg_style.specs.Values.{StyleValue}
use Rattle.pg_breaks.specs.Near.{place_penalty, place_forced}
use Rattle.pg_sums.specs.declared.totals.Totals.{Totals}
use Rattle.pg_sums.specs.AreSums.{AreTotals}
use Rattle.pg_sums.specs.Step.{counted, no_totals}
use Rattle.pg_notes.specs.declared.sums.NoteSum.{NoteSum}
use Rattle.pg_notes.specs.AreNotes.{AreNoteSums}
use Rattle.pg_notes.specs.Step.{no_note, with_note}
use Rattle.pg_notes.specs.NotesValue.{first_over_limit, smallest_by}
use Rattle.pg_rules.specs.Room.{Document}

-- ---- what is kept

-- the sums of the items passed, their notes by class, and the least room in which no break passed is over, if one was
-- passed behind a box
pub record Passed : Type 0 where
  pub totals : Totals
  pub notes : List NoteSum
  pub bound : Option ℤ

-- of no items
abbrev pub nothing : Passed
nothing = record { totals = no_totals; notes = replicate 8 no_note; bound = None }

-- the height of the notes passed where their skips are shrunk
abbrev pub least_notes : StyleValue → Passed → ℤ
least_notes style p = smallest_by style.classes p.notes

-- the least room in which the items are not over, the gaps of the areas shrunk
abbrev pub least_room : StyleValue → Passed → ℤ
least_room style p =
    int_min ((p.totals.total +ℤ least_notes style p) +ℤ pos 1)
    ((p.totals.total +ℤ least_notes style p) -ℤ p.totals.shrink)

-- no class of notes is above its limit
abbrev pub are_within : StyleValue → Passed → Bool
are_within style p = is_none (first_over_limit style.classes p.notes)

-- the room is not below the bound
abbrev pub fits : Option ℤ → ℤ → Bool
fits None room = true
fits (Some least) room = int_le least room

-- the bound with one more room to be kept
abbrev pub raised : Option ℤ → ℤ → Option ℤ
raised None least = Some least
raised (Some other) least = Some (int_max other least)

-- a break behind a box
abbrev pub is_end_here : List Block → Passed → Place → Bool
is_end_here blocks p at = p.totals.has_box && is_some (place_penalty blocks at)

-- with one more item
abbrev pub with_next : StyleValue → Passed → Item → Passed
with_next style p item = record {
  totals = counted style.topskip style.maxdepth p.totals item;
  notes = with_note style.classes p.notes item;
  bound = p.bound;
}

-- past a break that is not over
abbrev pub crossed : StyleValue → Passed → Passed
crossed style p = record { totals = p.totals; notes = p.notes; bound = raised p.bound (least_room style p) }

-- past an item; none is past a forced break behind a box
abbrev pub pass_item : Document → Passed → FlatItem → Option Passed
pass_item doc p x =
    if is_end_here doc.blocks p x.place
    then (if place_forced doc.blocks x.place then None else Some (with_next doc.style (crossed doc.style p) x.item))
    else Some (with_next doc.style p x.item)

-- past items one after another
abbrev pub pass_items : Document → Passed → List FlatItem → Option Passed
pass_items doc p [] = Some p
pass_items doc p (x ∷ xs) = option_map_or (λ (q : Passed). pass_items doc q xs) (pass_item doc p x) None

-- ---- what it says of items

-- the sums and notes are those of these items
pub record IsPassed (style : StyleValue) (items : List Item) (p : Passed) : Type 0 where
  pub totals_are : AreTotals style.topskip style.maxdepth (trimmed items) p.totals
  pub notes_are : AreNoteSums items style.classes p.notes
  pub places : length style.classes ≤ length p.notes
