-- What is kept of a paragraph and of its lines has one proof at most.
use Rattle.std.specs.Prelude.{List}
use Rattle.std.specs.Coded.{Coded-set, coded_list}
use Rattle.std.proofs.Props.{props}
use Rattle.pg_hlist.specs.declared.item.HItem.{HItem}
use Rattle.pg_hlist.specs.declared.item.HItem.TheVariants.{BoxItem, Glue, Kern, Penalty}
use Rattle.pg_hlist.specs.Items.{IsInRange, IsPara}
use Rattle.pg_lines.specs.contracts.ends.LineEnd as end_row
use Rattle.pg_lines.specs.declared.ends.LineEnd.{LineEnd}

item_prop : (item : HItem) → IsProp (IsInRange item)
item_prop (BoxItem width height depth body) = hlevel props
item_prop (Glue width stretch order shrink body) = hlevel props
item_prop (Kern width body) = hlevel props
item_prop (Penalty value body) = hlevel props

pub IsPara_prop : (items : List HItem) → IsProp (IsPara items)
IsPara_prop items = hlevel (props, item_prop)

pub lists_set : IsSet (List (List LineEnd))
lists_set = Coded-set (coded_list (coded_list end_row.the_row.coded))
