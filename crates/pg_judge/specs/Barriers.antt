-- Floats before a barrier, slot by slot and together.
use Rattle.std.specs.Prelude.{ℕ, Bool, ◌||◌, ◌&&◌, nat_le, List}
use Rattle.pg_list.specs.Barrier.{text_block}
use Rattle.pg_list.specs.Flat.{is_same_place}
use Rattle.pg_list.specs.declared.galley.Place.{Place}
use Rattle.pg_plan.specs.declared.pages.Column.{Column}
use Rattle.pg_rules.specs.Floats.{called, entry, flushed}
use Rattle.pg_rules.specs.Legal.{are_placed, are_ready}
use Rattle.pg_rules.specs.Room.{Document}

-- as many floats of a slot as are called before a place
abbrev pub has_called : Document → Place → List ℕ → ℕ → Bool
has_called doc from counts slot = nat_le (entry (called doc.blocks doc.style from) slot) (entry counts slot)

-- as many as are called before the last barrier in front of a block
abbrev pub has_flushed : Document → ℕ → List ℕ → ℕ → Bool
has_flushed doc block counts slot = nat_le (entry (flushed doc.blocks doc.style block) slot) (entry counts slot)

-- the one or the other
abbrev pub is_ready : Document → Place → ℕ → List ℕ → ℕ → Bool
is_ready doc from block counts slot = has_called doc from counts slot || has_flushed doc block counts slot

-- rule 14, barriers, of a column with so many floats placed before it and behind it
abbrev pub keeps_between : Document → Column → List ℕ → List ℕ → Bool
keeps_between doc column before behind =
    is_same_place column.from column.to
    || (are_ready doc.style (called doc.blocks doc.style column.from)
    (flushed doc.blocks doc.style (text_block doc.blocks column.from)) before
    && are_placed doc.style (flushed doc.blocks doc.style column.to.block) behind)
