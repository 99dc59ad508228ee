-- What stands between boxes.
use Rattle.std.specs.Prelude.{ℕ, suc, Bool, true, false, if◌then◌else◌, List, [], ◌∷◌, ℤ, pos}
use Rattle.pg_list.specs.Whole.{whole_sum_by}
use Rattle.pg_drawing.specs.Shapes.{extent}
use Rattle.pg_drawing.specs.declared.model.Mark.{Mark}
use Rattle.pg_drawing.specs.declared.model.Shape.{Shape}
use Rattle.pg_drawing.specs.declared.model.Shape.TheVariants.{Box, Rule, Glue, Kern, Insert}

-- what is no box, rule or insert stands between these
abbrev pub is_between : Shape → Bool
is_between (Box height depth width) = false
is_between (Rule height depth) = false
is_between (Insert class size) = false
is_between shape = true

-- how many marks stand before the first box, rule or insert
abbrev pub between_count : List Mark → ℕ
between_count [] = 0
between_count (mark ∷ marks) = if is_between mark.shape then suc (between_count marks) else 0

-- the width that glue and kerns have of themselves
abbrev pub own_width : Shape → ℤ
own_width (Glue own stretch order shrink set) = own
own_width (Kern width) = width
own_width shape = pos 0

-- the width that they have on the page
abbrev pub set_width : Shape → ℤ
set_width (Glue own stretch order shrink set) = extent (Glue own stretch order shrink set)
set_width (Kern width) = width
set_width shape = pos 0

-- of marks together
abbrev pub own_sum : List Mark → ℤ
own_sum marks = whole_sum_by (λ (mark : Mark). own_width mark.shape) marks

abbrev pub set_sum : List Mark → ℤ
set_sum marks = whole_sum_by (λ (mark : Mark). set_width mark.shape) marks
