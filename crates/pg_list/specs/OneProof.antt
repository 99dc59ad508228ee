-- What a block keeps has one proof at most.
use Rattle.std.specs.Prelude.{List, [], ◌∷◌}
use Rattle.std.specs.Coded.{Coded-set, coded_list}
use Rattle.std.proofs.Props.{props}
use Rattle.pg_list.specs.contracts.item.Item as item_row
use Rattle.pg_list.specs.declared.item.Item.{Item}
use Rattle.pg_list.specs.declared.item.Item.TheVariants.{BoxItem, Rule, Glue, Kern, Penalty, Insert, Carry}
use Rattle.pg_list.specs.declared.variants.Variant.{Variant}
use Rattle.pg_list.specs.declared.blocks.Block.{Block}
use Rattle.pg_list.specs.declared.blocks.Block.TheVariants.{One, Choice}
use Rattle.pg_list.specs.Ranges.{IsItemInRange}
use Rattle.pg_list.specs.Shapes.{BeginsWithBox, HaveEqualInserts, IsBlock, IsChoice, IsVariant}

items_set : IsSet (List Item)
items_set = Coded-set (coded_list item_row.the_row.coded)

item_prop : (item : Item) → IsProp (IsItemInRange item)
item_prop (BoxItem height depth body) = hlevel props
item_prop (Rule height depth body) = hlevel props
item_prop (Glue width stretch order shrink body) = hlevel props
item_prop (Kern width body) = hlevel props
item_prop (Penalty value body) = hlevel props
item_prop (Insert class size body) = hlevel props
item_prop (Carry body) = hlevel props

begins_prop : (items : List Item) → IsProp (BeginsWithBox items)
begins_prop [] = hlevel props
begins_prop (item ∷ items) = hlevel props

variant_prop : (variant : Variant) → IsProp (IsVariant variant)
variant_prop variant = hlevel (props, begins_prop)

inserts_prop : (variants : List Variant) → IsProp (HaveEqualInserts variants)
inserts_prop [] = hlevel props
inserts_prop (variant ∷ variants) = hlevel (props, items_set)

choice_prop : (variants : List Variant) → IsProp (IsChoice variants)
choice_prop variants = hlevel (props, variant_prop, inserts_prop, item_prop)

pub IsBlock_prop : (block : Block) → IsProp (IsBlock block)
IsBlock_prop (One item) = item_prop item
IsBlock_prop (Choice variants) = choice_prop variants
