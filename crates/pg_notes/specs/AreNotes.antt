-- What kept sums say of the items that were added.
use Rattle.std.specs.Prelude.{◌≡◌, ℕ, ◌==◌, not, List, [], ◌∷◌, length, pos, Option, option_map}
use Rattle.std.specs.List.{find}
use Rattle.pg_list.specs.declared.item.Item.{Item}
use Rattle.pg_style.specs.Values.{StyleValue}
use Rattle.pg_style.specs.declared.style.Class.{Class}
use Rattle.pg_list.specs.Whole.{whole_sum}
use Rattle.pg_rules.specs.Floats.{sizes_of}
use Rattle.pg_rules.specs.Room.{is_within_limit}
use Rattle.pg_notes.specs.declared.sums.NoteSum.{NoteSum}
use Rattle.pg_notes.specs.NotesValue.{NotesValue}

-- the sizes of the inserts of a class together, and whether there is one
pub record IsNoteSum (items : List Item) (number : ℕ) (sum : NoteSum) : Type 0 where
  pub size_is : whole_sum (sizes_of number items) ≡ pos sum.size
  pub there_is : sum.is_there ≡ not (length (sizes_of number items) == 0)

-- each class has its sum
abbrev pub AreNoteSums : List Item → List Class → List NoteSum → Type 0
AreNoteSums items [] sums = Unit {0}
AreNoteSums items (class ∷ classes) [] = ⊥
AreNoteSums items (class ∷ classes) (sum ∷ sums) = IsNoteSum items class.number sum × AreNoteSums items classes sums

pub record AreNotes (style : StyleValue) (items : List Item) (notes : NotesValue) : Type 0 where
  pub count_is : notes.count ≡ length items
  pub sums_are : AreNoteSums items style.classes notes.sums

-- the number of the first class whose notes are above its limit; classes stand in increasing number
abbrev pub first_over : StyleValue → List Item → Option ℕ
first_over style items =
    option_map (λ (class : Class). class.number)
    (find (λ (class : Class). not (is_within_limit items class.number class.kind)) style.classes)
