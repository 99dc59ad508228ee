-- Whether the item lines of a text add up to the total that is printed for it.
use Rattle.std.specs.Prelude.{Bool, if◌then◌else◌, ◌&&◌, List, [], ◌∷◌, ℤ, pos, ◌+ℤ◌, ◌-ℤ◌, int_le, int_lt}
use Rattle.pg_drawing.specs.Shapes.{extent}
use Rattle.pg_drawing.specs.declared.model.Mark.{Mark}
use Rattle.pg_drawing.specs.declared.model.Shape.{Shape}
use Rattle.pg_drawing.specs.declared.model.Shape.TheVariants.{Box, Rule, Glue, Kern}

-- how much an item takes before glue is set
abbrev pub natural_extent : Shape → ℤ
natural_extent (Glue own stretch order shrink set) = own
natural_extent shape = extent shape

-- how far a column hangs down behind an item, where it hung down so far before: as the item does, if it has a size
abbrev pub hanging_behind : ℤ → Shape → ℤ
hanging_behind depth (Box height own width) = own
hanging_behind depth (Rule height own) = own
hanging_behind depth (Glue own stretch order shrink set) = pos 0
hanging_behind depth (Kern width) = pos 0
hanging_behind depth _ = depth

-- the depth of the last item that has a size
abbrev pub hanging : ℤ → List Mark → ℤ
hanging depth [] = depth
hanging depth (mark ∷ marks) = hanging (hanging_behind depth mark.shape) marks

-- a height with that of all items below it, before glue is set
abbrev pub with_items : ℤ → List Mark → ℤ
with_items height [] = height
with_items height (mark ∷ marks) = with_items (height +ℤ natural_extent mark.shape) marks

-- the total is this height less the depth, or less what is allowed of it
abbrev pub is_total : ℤ → ℤ → ℤ → Bool
is_total height depth total = int_le (height -ℤ depth) total
    && (if int_lt depth (pos 0) then int_le total (height -ℤ depth) else int_le total height)

-- the items add up to the total, whatever depth is allowed
abbrev pub adds_up : List Mark → ℤ → Bool
adds_up marks total = is_total (with_items (pos 0) marks) (hanging (pos 0) marks) total
