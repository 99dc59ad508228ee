-- The natural size of a segment, its depth, its stretch and its shrink.
use Rattle.std.specs.Prelude.{Bool, true, false, if◌then◌else◌, List, [], ◌∷◌, ℤ, pos, ◌+ℤ◌, ◌-ℤ◌}
use Rattle.std.specs.List.{find}
use Rattle.std.specs.Int.{int_min, int_max}
use Rattle.std.specs.Option.{option_map_or}
use Rattle.std.specs.Prelude.{reverse}
use Rattle.pg_list.specs.declared.item.Item.{Item}
use Rattle.pg_list.specs.declared.item.Item.TheVariants.{BoxItem, Rule, Glue, Kern, Penalty, Insert, Carry}
use Rattle.pg_list.specs.declared.item.Order.{Order}
use Rattle.pg_list.specs.declared.item.Order.TheVariants.{Finite, Fil, Fill, Filll}
use Rattle.pg_list.specs.Shapes.{is_box, is_discardable}
use Rattle.pg_list.specs.Whole.{whole_sum_by}

-- the items, without the discardable ones before the first box or rule
abbrev pub trimmed : List Item → List Item
trimmed [] = []
trimmed (item ∷ items) =
    if is_box item then item ∷ items else (if is_discardable item then trimmed items else item ∷ trimmed items)

-- what an item adds to the size, its depth included
abbrev pub full_size : Item → ℤ
full_size (BoxItem height depth body) = height +ℤ depth
full_size (Rule height depth body) = height +ℤ depth
full_size (Glue width stretch order shrink body) = width
full_size (Kern width body) = width
full_size _ = pos 0

-- the height of a box or rule
abbrev pub height_of : Item → ℤ
height_of (BoxItem height depth body) = height
height_of (Rule height depth body) = height
height_of _ = pos 0

-- the depth of a box or rule
abbrev pub depth_of : Item → ℤ
depth_of (BoxItem height depth body) = depth
depth_of (Rule height depth body) = depth
depth_of _ = pos 0

-- boxes, rules, glue and kerns have a size
abbrev pub has_size : Item → Bool
has_size (Penalty value body) = false
has_size (Insert class size body) = false
has_size (Carry body) = false
has_size _ = true

-- what stands above the first box or rule
abbrev pub top_glue : ℤ → List Item → ℤ
top_glue topskip items =
    option_map_or (λ item. int_max (pos 0) (topskip -ℤ height_of item)) (find is_box items) (pos 0)

-- the depth of the last item with a size, up to the limit
abbrev pub depth : ℤ → List Item → ℤ
depth maxdepth items =
    option_map_or (λ item. int_min maxdepth (depth_of item)) (find has_size (reverse items)) (pos 0)

-- all sizes and depths together, less the depth that hangs below
abbrev pub total : ℤ → ℤ → List Item → ℤ
total topskip maxdepth items =
    (top_glue topskip items +ℤ whole_sum_by full_size items) -ℤ depth maxdepth items

-- equal orders of infinity
abbrev pub is_same_order : Order → Order → Bool
is_same_order Finite Finite = true
is_same_order Fil Fil = true
is_same_order Fill Fill = true
is_same_order Filll Filll = true
is_same_order _ _ = false

-- the stretch of glue, where it is of this order
abbrev pub stretch_of : Order → Item → ℤ
stretch_of order (Glue width amount own shrink body) = if is_same_order order own then amount else pos 0
stretch_of order _ = pos 0

-- the shrink of glue
abbrev pub shrink_of : Item → ℤ
shrink_of (Glue width stretch order amount body) = amount
shrink_of _ = pos 0

-- the stretch of this order in all
abbrev pub stretch : Order → List Item → ℤ
stretch order items = whole_sum_by (stretch_of order) items

-- the shrink in all
abbrev pub shrink : List Item → ℤ
shrink items = whole_sum_by shrink_of items
