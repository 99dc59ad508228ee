-- What an item alone tells of a break at its place.
use Rattle.std.specs.Prelude.{Bool, false, Option, Some, None, pos, int_lt}
use Rattle.pg_list.specs.declared.item.Item.{Item}
use Rattle.pg_list.specs.declared.item.Item.TheVariants.{Glue, Kern, Penalty}

-- whether it is a break; of glue and kerns the items beside them tell it
abbrev pub told : Item → Option Bool
told (Glue width stretch order shrink body) = None
told (Kern width body) = None
told (Penalty value body) = Some (int_lt value (pos 10000))
told _ = Some false
