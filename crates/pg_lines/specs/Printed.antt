-- How a line is printed.
use Rattle.std.specs.Prelude.{List, [], ◌∷◌, ℤ, ◌-ℤ◌, int_lt, if◌then◌else◌, ℕ}
use Rattle.std.specs.Int.{int_max}
use Rattle.std.specs.List.{flat_map}
use Rattle.pg_glue.specs.declared.Sense.TheVariants.{Stretch, Shrink}
use Rattle.pg_glue.specs.Widths.{set_widths}
use Rattle.pg_hlist.specs.declared.item.HItem.{HItem}
use Rattle.pg_hlist.specs.declared.item.HItem.TheVariants.{BoxItem, Glue, Kern, Penalty}
use Rattle.pg_lines.specs.declared.sizes.BoxSizes.{BoxSizes}
use Rattle.law_lines.specs.Boxes.{deeper, depth_of, elastic, height_of, own_width, set_deeper}

-- the set widths of the glue of a line of this total
abbrev pub widths_by : List HItem → ℤ → ℤ → List ℤ
widths_by items width total =
    if int_lt total width then set_widths (flat_map (elastic Stretch) items) (width -ℤ total) Stretch
    else (if int_lt width total then set_widths (flat_map (elastic Shrink) items) (total -ℤ width) Shrink
    else flat_map own_width items)

-- an item, where these set widths are left
abbrev pub item_text : HItem → List ℤ → List ℕ
item_text (BoxItem width height depth body) widths = deeper body
item_text (Glue width stretch order shrink body) [] = deeper body
item_text (Glue width stretch order shrink body) (set ∷ widths) = set_deeper body set
item_text (Kern width body) widths = deeper body
item_text (Penalty value body) widths = deeper body

-- the set widths that are left behind it
abbrev pub widths_behind : HItem → List ℤ → List ℤ
widths_behind (BoxItem width height depth body) widths = widths
widths_behind (Glue width stretch order shrink body) [] = []
widths_behind (Glue width stretch order shrink body) (set ∷ widths) = widths
widths_behind (Kern width body) widths = widths
widths_behind (Penalty value body) widths = widths

-- ---- sizes

abbrev pub sizes_of : List HItem → BoxSizes
sizes_of items = record { height = height_of items; depth = depth_of items }

-- one item more in front
abbrev pub sizes_with : HItem → BoxSizes → BoxSizes
sizes_with (BoxItem width height depth body) sizes =
    record { height = int_max height sizes.height; depth = int_max depth sizes.depth }
sizes_with (Glue width stretch order shrink body) sizes = sizes
sizes_with (Kern width body) sizes = sizes
sizes_with (Penalty value body) sizes = sizes
