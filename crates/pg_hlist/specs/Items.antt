-- Items of a horizontal list: their sizes, and how they are seen as items of a list that is broken.
use Rattle.std.specs.Prelude.{◌≤◌, ◌^◌, ℕ, List, [], ◌∷◌, length, map, ℤ, pos}
use Rattle.std.specs.List.{AllByRecursion}
use Rattle.pg_list.specs.declared.item.Item.{Item}
use Rattle.pg_list.specs.declared.item.Item.TheVariants as item
use Rattle.pg_list.specs.Bodies.{longer}
use Rattle.pg_scaled.specs.Ranges.{IsScaled}
use Rattle.pg_hlist.specs.declared.item.HItem.{HItem}
use Rattle.pg_hlist.specs.declared.item.HItem.TheVariants.{BoxItem, Glue, Kern, Penalty}
use Rattle.pg_hlist.specs.declared.item.HNode.{HNode}
use Rattle.pg_hlist.specs.declared.item.HNode.TheVariants as node

-- a paragraph has at most so many items
abbrev pub para_limit : ℕ
para_limit = 2 ^ 11

-- the same item without its width, where breaks, stretch and shrink are asked
abbrev pub as_item : HItem → Item
as_item (BoxItem width height depth body) = item.BoxItem height depth body
as_item (Glue width stretch order shrink body) = item.Glue width stretch order shrink body
as_item (Kern width body) = item.Kern width body
as_item (Penalty value body) = item.Penalty value body

abbrev pub as_items : List HItem → List Item
as_items items = map as_item items

abbrev pub width_of : HItem → ℤ
width_of (BoxItem width height depth body) = width
width_of (Glue width stretch order shrink body) = width
width_of (Kern width body) = width
width_of (Penalty value body) = pos 0

-- an item with one more line
abbrev pub with_line : List ℕ → HItem → HItem
with_line line (BoxItem width height depth body) = BoxItem width height depth (longer body line)
with_line line (Glue width stretch order shrink body) = Glue width stretch order shrink (longer body line)
with_line line (Kern width body) = Kern width (longer body line)
with_line line (Penalty value body) = Penalty value (longer body line)

-- the last item has one more line
abbrev pub extended : List ℕ → List HItem → List HItem
extended line [] = []
extended line (item ∷ []) = with_line line item ∷ []
extended line (item ∷ next ∷ items) = item ∷ extended line (next ∷ items)

-- the item with these numbers and this body
abbrev pub node_item : HNode → List ℕ → HItem
node_item (node.Box width height depth) body = BoxItem width height depth body
node_item (node.Glue width stretch order shrink) body = Glue width stretch order shrink body
node_item (node.Kern width) body = Kern width body
node_item (node.Penalty value) body = Penalty value body

abbrev pub IsInRange : HItem → Type 0
IsInRange (BoxItem width height depth body) = IsScaled width × IsScaled height × IsScaled depth
IsInRange (Glue width stretch order shrink body) = IsScaled width × IsScaled stretch × IsScaled shrink
IsInRange (Kern width body) = IsScaled width
IsInRange (Penalty value body) = Unit {0}

abbrev pub IsNodeInRange : HNode → Type 0
IsNodeInRange (node.Box width height depth) = IsScaled width × IsScaled height × IsScaled depth
IsNodeInRange (node.Glue width stretch order shrink) = IsScaled width × IsScaled stretch × IsScaled shrink
IsNodeInRange (node.Kern width) = IsScaled width
IsNodeInRange (node.Penalty value) = Unit {0}

-- what the type of a paragraph keeps
pub record IsPara (items : List HItem) : Type 0 where
  pub few : length items ≤ para_limit
  pub ranges : AllByRecursion IsInRange items
