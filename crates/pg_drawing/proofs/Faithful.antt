-- The areas of a drawing are those of lines.
use Rattle.std.proofs.Common.{◌≡◌, refl, ℕ, List, [], ◌∷◌, ◌++◌, map}
use Rattle.std.specs.List.{AllByRecursion, flat_map}
use Rattle.pg_scan.specs.Parts.{parts_of}
use Rattle.pg_drawing.specs.Drawn.{area_of, column_of, drawing_of, drawn, page_of}
use Rattle.pg_drawing.specs.Laws.{IsFaithful, IsFaithfulDrawing, page_areas}
use Rattle.pg_drawing.specs.Pieces.{Lines, begins, cut, until}
use Rattle.pg_drawing.specs.declared.model.DrawnArea.{DrawnArea}
use Rattle.pg_drawing.specs.declared.model.DrawnColumn.{DrawnColumn}
use Rattle.pg_drawing.specs.declared.model.DrawnPage.{DrawnPage}
use Rattle.pg_drawing.specs.declared.pieces.Kind.TheVariants as at
use Rattle.pg_drawing.proofs.Filled.{is_filled, its_items}

both : (xs ys : List DrawnArea) → AllByRecursion IsFaithful xs → AllByRecursion IsFaithful ys →
    AllByRecursion IsFaithful (xs ++ ys)
both [] ys all more = more
both (x ∷ xs) ys (first, all) more = (first, both xs ys all more)

areas : (pieces : List Lines) → AllByRecursion IsFaithful (map area_of pieces)
areas [] = _
areas (lines ∷ pieces) = (
  record { lines = lines; is = refl; items = its_items lines; filled = is_filled lines },
  areas pieces,
)

columns : (pieces : List Lines) →
    AllByRecursion IsFaithful (flat_map (λ (column : DrawnColumn). column.areas) (map column_of pieces))
columns [] = _
columns (lines ∷ pieces) = both (column_of lines).areas _ (areas (cut (begins at.Area) lines.rest)) (columns pieces)

pages : (pieces : List Lines) → AllByRecursion IsFaithful (flat_map page_areas (map page_of pieces))
pages [] = _
pages (lines ∷ pieces) =
    both (page_areas (page_of lines)) _
    (both (page_of lines).wide _ (areas (cut (begins at.Area) (until (begins at.Column) lines.rest)))
    (columns (cut (begins at.Column) lines.rest)))
    (pages pieces)

pub is_faithful : (lines : List (List ℕ)) → IsFaithfulDrawing (drawn lines)
is_faithful lines = pages (cut (begins at.Page) lines)

pub text_is_faithful : (text : List ℕ) → IsFaithfulDrawing (drawing_of text)
text_is_faithful text = is_faithful (parts_of 10 text)
