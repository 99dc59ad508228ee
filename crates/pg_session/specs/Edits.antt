-- What an edit makes of a galley, and why it is refused.
use Rattle.std.specs.Prelude.{◌≡◌, ℕ, ◌+◌, ◌-◌, ◌^◌, min, nat_lt, if◌then◌else◌, List, length, Option, Some, None, Result, Ok, Err}
use Rattle.pg_edits.specs.declared.fault.EditFault.{EditFault}
use Rattle.pg_edits.specs.declared.fault.EditFault.TheVariants.{Range, Limit, Class, Floats, Memory}
use Rattle.pg_floats.specs.AreFloats.{float_total, unknown_class}
use Rattle.pg_list.specs.Counts.{item_count, item_limit}
use Rattle.pg_list.specs.GalleyValue.{GalleyValue}
use Rattle.pg_list.specs.Places.{spliced}
use Rattle.pg_list.specs.declared.blocks.Block.{Block}
use Rattle.pg_list.specs.declared.galley.Edit.{Edit}
use Rattle.pg_style.specs.Values.{StyleValue}

-- the galley with the edit's blocks spliced in, of the same width
abbrev pub edited : GalleyValue → Edit → GalleyValue
edited galley edit = record galley { blocks = spliced galley.blocks edit }

-- the blocks that go are not all there
abbrev pub range_fault : List Block → Edit → Option EditFault
range_fault blocks edit =
    if nat_lt (length blocks) (edit.at + edit.gone) then Some (Range edit.at edit.gone (length blocks)) else None

-- there are too many items; their number is told, or the greatest that 32 bits hold
abbrev pub limit_fault : List Block → Option EditFault
limit_fault blocks =
    if nat_lt item_limit (item_count blocks) then Some (Limit (min (item_count blocks) (2 ^ 32 - 1))) else None

-- an insert's class is not in the style: the first such
abbrev pub class_fault : Option ℕ → Option EditFault
class_fault None = None
class_fault (Some number) = Some (Class number)

-- there are too many floats
abbrev pub count_fault : ℕ → Option EditFault
count_fault count = if nat_lt (2 ^ 12) count then Some (Floats count) else None

-- the first of two faults
abbrev pub first_fault : Option EditFault → Option EditFault → Option EditFault
first_fault None later = later
first_fault (Some fault) later = Some fault

-- what is wrong with the blocks that go, or else with how many items come
abbrev pub splice_fault : GalleyValue → Edit → Option EditFault
splice_fault galley edit = first_fault (range_fault galley.blocks edit) (limit_fault (spliced galley.blocks edit))

-- what is wrong with the floats of these blocks
abbrev pub floats_fault : List Block → StyleValue → Option EditFault
floats_fault blocks style =
    first_fault (class_fault (unknown_class blocks style)) (count_fault (float_total blocks style))

-- why an edit is refused: the first of four causes, if there is one
abbrev pub edit_fault : GalleyValue → StyleValue → Edit → Option EditFault
edit_fault galley style edit =
    first_fault (splice_fault galley edit) (floats_fault (spliced galley.blocks edit) style)

-- Ok comes only where there is no fault, and a refusal names the fault that there is; want of memory is free
abbrev pub Refuses : {T : Type 0} → Result T EditFault → Option EditFault → Type 0
Refuses (Ok t) cause = cause ≡ None
Refuses (Err Memory) cause = Unit {0}
Refuses (Err fault) cause = cause ≡ Some fault
