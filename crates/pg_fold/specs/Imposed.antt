-- Which page stands in which cell.
use Rattle.std.specs.Prelude.{ℕ, zero, suc, ◌+◌, ◌-◌, ◌*◌, ◌/◌, ◌%◌, ◌^◌, ◌==◌, nat_lt, if◌then◌else◌, List, map}
use Rattle.std.specs.List.{flat_map, range_with_len}
use Rattle.pg_fold.specs.Folding.{column_count, row_count}
use Rattle.pg_fold.specs.declared.face.Face.{Face}
use Rattle.pg_fold.specs.declared.face.Side.{Side}
use Rattle.pg_fold.specs.declared.face.Side.TheVariants.{Front, Back}
use Rattle.pg_fold.specs.declared.layout.Layout.{Layout}
use Rattle.pg_fold.specs.declared.sheets.Sheet.{Sheet}

-- the pages of a sheet
abbrev pub sheet_pages : ℕ → ℕ
sheet_pages folds = 2 ^ (folds + 1)

abbrev pub signature_pages : ℕ → ℕ → ℕ
signature_pages folds nest = nest * sheet_pages folds

-- the least number of signatures that hold all pages
abbrev pub signature_count : ℕ → ℕ → ℕ → ℕ
signature_count folds nest pages = (pages + (signature_pages folds nest - 1)) / signature_pages folds nest

-- ---- where a face comes to lie

-- the right half over the left
abbrev pub across : Face → Face
across face =
    if nat_lt face.column (face.columns / 2)
    then record face { place = face.height + face.place; columns = face.columns / 2; height = face.height * 2 }
    else record face {
      column = face.columns - 1 - face.column;
      place = face.height - 1 - face.place;
      columns = face.columns / 2;
      height = face.height * 2;
    }

-- the lower half over the upper
abbrev pub upwards : Face → Face
upwards face =
    if nat_lt face.row (face.rows / 2)
    then record face { place = face.height + face.place; rows = face.rows / 2; height = face.height * 2 }
    else record face {
      row = face.rows - 1 - face.row;
      place = face.height - 1 - face.place;
      rows = face.rows / 2;
      height = face.height * 2;
    }

-- after so many folds
abbrev pub face_after : ℕ → Face → Face
face_after zero face = face
face_after (suc n) face = if suc n % 2 == 1 then across (face_after n face) else upwards (face_after n face)

-- the front lies on the back
abbrev pub first_place : Side → ℕ
first_place Front = 0
first_place Back = 1

-- the face of a cell before the first fold
abbrev pub face_of : ℕ → Side → ℕ → Face
face_of folds side cell = record {
  row = cell / column_count folds;
  column = cell % column_count folds;
  place = first_place side;
  rows = row_count folds;
  columns = column_count folds;
  height = 2;
}

-- the place of a cell's face in the reading of its sheet
abbrev pub sheet_place : ℕ → Side → ℕ → ℕ
sheet_place folds side cell = sheet_pages folds - 1 - (face_after folds (face_of folds side cell)).place

-- ---- pages

-- the place in the reading of a signature of what stands at a place in the reading of its sheet; sheets are counted from
-- the outermost
abbrev pub signature_place : ℕ → ℕ → ℕ → ℕ → ℕ
signature_place half nest sheet place =
    if nat_lt place half then sheet * half + place else nest * half + ((nest - 1 - sheet) * half + (place - half))

-- the page at a place, or a blank behind the last
abbrev pub page_at : ℕ → ℕ → ℕ
page_at pages place = if nat_lt place pages then place + 1 else 0

-- the page of a cell of a sheet; `start` is the number of pages that the signatures before this one hold
abbrev pub cell_page : Layout → ℕ → ℕ → Side → ℕ → ℕ
cell_page layout start sheet side cell =
    page_at layout.pages
    (start + signature_place (2 ^ layout.folds) layout.nest sheet (sheet_place layout.folds side cell))

abbrev pub cells : Layout → ℕ → ℕ → Side → List ℕ
cells layout start sheet side = map (cell_page layout start sheet side) (range_with_len 0 (2 ^ layout.folds))

abbrev pub sheet_of : Layout → ℕ → ℕ → Sheet
sheet_of layout start sheet = record { front = cells layout start sheet Front; back = cells layout start sheet Back }

-- the sheets of a signature, from the outermost in
abbrev pub signature_from : Layout → ℕ → List Sheet
signature_from layout start = map (sheet_of layout start) (range_with_len 0 layout.nest)

abbrev pub signature_of : Layout → ℕ → List Sheet
signature_of layout signature = signature_from layout (signature * signature_pages layout.folds layout.nest)

abbrev pub layout_of : ℕ → ℕ → ℕ → Layout
layout_of folds nest pages = record { folds = folds; nest = nest; pages = pages }

-- the sheets of all signatures
abbrev pub imposed : ℕ → ℕ → ℕ → List Sheet
imposed folds nest pages =
    flat_map (signature_of (layout_of folds nest pages)) (range_with_len 0 (signature_count folds nest pages))
