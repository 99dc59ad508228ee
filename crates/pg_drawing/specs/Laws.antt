-- What a drawing shows of the lines of its text.
use Rattle.std.specs.Prelude.{◌≡◌, ◌≤ℤ◌, ◌-ℤ◌, ℕ, List, [], ◌∷◌, ◌++◌, map, ℤ, pos, ◌+ℤ◌}
use Rattle.std.specs.Int.{int_min}
use Rattle.std.specs.List.{AllByRecursion, filter, flat_map}
use Rattle.pg_list.specs.Whole.{whole_sum_by}
use Rattle.pg_drawing.specs.Drawn.{area_of}
use Rattle.pg_drawing.specs.Pieces.{Lines, begins}
use Rattle.pg_drawing.specs.Shapes.{extent, shape_of}
use Rattle.pg_drawing.specs.Totals.{hanging, with_items}
use Rattle.pg_drawing.specs.declared.model.DrawnArea.{DrawnArea}
use Rattle.pg_drawing.specs.declared.model.DrawnColumn.{DrawnColumn}
use Rattle.pg_drawing.specs.declared.model.DrawnPage.{DrawnPage}
use Rattle.pg_drawing.specs.declared.model.Drawing.{Drawing}
use Rattle.pg_drawing.specs.declared.model.Mark.{Mark}
use Rattle.pg_drawing.specs.declared.pieces.Kind.TheVariants as at

-- the lines with which items begin
abbrev pub item_lines : List (List ℕ) → List (List ℕ)
item_lines lines = filter (begins at.Item) lines

-- the marks of an area have the shapes of its item lines: one for each, in their order
abbrev pub AreItsItems : Lines → Type 0
AreItsItems lines = map (λ (mark : Mark). mark.shape) (area_of lines).marks ≡ map shape_of (item_lines lines.rest)

-- the first mark begins here, each other where the one before it ends, and the last ends there
abbrev pub Adjoin : ℤ → List Mark → ℤ → Type 0
Adjoin from [] to = from ≡ to
Adjoin from (mark ∷ marks) to = (mark.top ≡ from) × Adjoin (from +ℤ extent mark.shape) marks to

-- the extent that an item line says
abbrev pub line_extent : List ℕ → ℤ
line_extent line = extent (shape_of line)

-- an area is as high as its item lines say together, and its marks fill it without gaps
pub record IsFilled (lines : Lines) : Type 0 where
  pub height : (area_of lines).height ≡ whole_sum_by line_extent (item_lines lines.rest)
  pub marks : Adjoin (pos 0) (area_of lines).marks (area_of lines).height

-- an area of lines: a mark for each item line, in order and without gaps
pub record IsFaithful (area : DrawnArea) : Type 0 where
  pub lines : Lines
  pub is : area ≡ area_of lines
  pub items : AreItsItems lines
  pub filled : IsFilled lines

-- all areas of a page
abbrev pub page_areas : DrawnPage → List DrawnArea
page_areas page = page.wide ++ flat_map (λ (column : DrawnColumn). column.areas) page.columns

-- all areas of a drawing are those of lines
abbrev pub IsFaithfulDrawing : Drawing → Type 0
IsFaithfulDrawing drawing = AllByRecursion IsFaithful (flat_map page_areas drawing.pages)

-- the total is the height of all items before glue is set, less the lesser of a limit and of the depth of the last that
-- has a size
abbrev pub IsTotal : List Mark → ℤ → Type 0
IsTotal marks total = (limit : ℤ) × (pos 0 ≤ℤ limit)
    × (total ≡ with_items (pos 0) marks -ℤ int_min limit (hanging (pos 0) marks))
