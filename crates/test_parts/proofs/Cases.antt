-- Items, galleys and styles of the cases, and how a table of them is told.
use Rattle.std.specs.Prelude.{◌≡◌, ℕ, ◌*◌, ℤ, pos, negsuc, List, [], ◌∷◌, map}
use Rattle.pg_list.specs.declared.item.Item.{Item}
use Rattle.pg_list.specs.declared.item.Item.TheVariants.{BoxItem, Glue, Kern, Penalty, Insert, Carry}
use Rattle.pg_list.specs.declared.item.Order.TheVariants.{Finite, Fil}
use Rattle.pg_list.specs.declared.variants.Variant.{Variant}
use Rattle.pg_list.specs.declared.blocks.Block.{Block}
use Rattle.pg_list.specs.declared.blocks.Block.TheVariants.{One}
use Rattle.pg_style.specs.declared.style.Class.{Class}
use Rattle.pg_style.specs.declared.style.Kind.TheVariants.{Note, Float}
use Rattle.pg_style.specs.declared.style.Area.TheVariants.{Top, Wide}
use Rattle.pg_style.specs.Values.{StyleValue}
use Rattle.pg_style.specs.Plain.{plain, rigid}

-- each line of a table has what is found, and behind it what was told
abbrev pub AreTold : {A : Type 0} → List (A × A) → Type 0
AreTold rows = map (λ row. row.0) rows ≡ map (λ row. row.1) rows

abbrev pub points : ℕ → ℤ
points n = pos (n * 65536)

-- a box 7 points above and 2 below its baseline
abbrev pub line : Item
line = BoxItem (points 7) (points 2) []

-- 3 points, rigid, or with infinite stretch
abbrev pub gap : Item
gap = Glue (points 3) (pos 0) Finite (pos 0) []

abbrev pub fil_gap : Item
fil_gap = Glue (points 3) (points 1) Fil (pos 0) []

abbrev pub kern : Item
kern = Kern (points 3) []

abbrev pub mark : Item
mark = Carry []

abbrev pub penalty : ℤ → Item
penalty value = Penalty value []

abbrev pub insert : ℕ → ℤ → Item
insert class size = Insert class size []

-- a galley without choices
abbrev pub items : List Item → List Block
items list = map One list

-- a variant, and one that is a line longer
abbrev pub variant : List Item → Variant
variant list = record { looseness = pos 0; demerits = 0; items = list }

abbrev pub loose : List Item → Variant
loose list = record { looseness = pos 1; demerits = 100; items = list }

-- columns of 58 points. Notes of class 200 have 4 points above the first and take 100 at most together; those of class
-- 201 have 2 and take 5 at most. Inserts of class 100 are floats
abbrev pub note_classes : List Class
note_classes =
    record { number = 100; kind = Float Top (0 ∷ []) }
    ∷ record { number = 200; kind = Note (rigid (points 4)) (points 100) }
    ∷ record { number = 201; kind = Note (rigid (points 2)) (points 5) }
    ∷ []

abbrev pub note_style : StyleValue
note_style = record (plain (points 58)) { classes = note_classes }

-- two classes of floats, 100 at the top and 101 across, with these distance tables
abbrev pub float_style : List ℕ → List ℕ → StyleValue
float_style near far = record (plain (points 58)) {
  classes = record { number = 100; kind = Float Top near } ∷ record { number = 101; kind = Float Wide far } ∷ [];
}
