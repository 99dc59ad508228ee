-- That layouts are those of a document has one proof at most.
use Rattle.std.specs.Prelude.{List}
use Rattle.std.specs.Coded.{Coded-set, coded_list}
use Rattle.std.specs.List.{AllByRecursion-prop}
use Rattle.std.proofs.Props.{props}
use Rattle.pg_column.specs.Numbers.{IsRoom}
use Rattle.pg_rules.specs.Room.{Document}
use Rattle.pg_rooms.specs.KeptLaid.{AreLayouts, AreStays, AreTexts}
use Rattle.pg_rooms.specs.PlaceEnds.{IsPageRoom}
use Rattle.pg_rooms.specs.contracts.laid.Laid as laid_row
use Rattle.pg_rooms.specs.declared.kept_laid.KeptLaid.{KeptLaid}
use Rattle.pg_rooms.specs.declared.kept_laid.Layouts.{Layouts}
use Rattle.pg_rooms.specs.declared.laid.Laid.{Laid}

laid_set : IsSet (List Laid)
laid_set = Coded-set (coded_list laid_row.the_row.coded)

room_prop : (it : Laid) → IsProp (IsRoom it.room)
room_prop it = hlevel props

page_prop : (doc : Document) (it : Laid) → IsProp (IsPageRoom doc.style it.room)
page_prop doc it = hlevel props

texts_prop : (doc : Document) (it : KeptLaid) → IsProp (AreTexts doc it)
texts_prop doc it = hlevel (
  props,
  laid_set,
  AllByRecursion-prop (λ (x : Laid). IsRoom x.room) room_prop,
  AllByRecursion-prop (λ (x : Laid). IsPageRoom doc.style x.room) (page_prop doc),
)

stays_prop : (doc : Document) (it : KeptLaid) → IsProp (AreStays doc it)
stays_prop doc it = hlevel (props, laid_set, AllByRecursion-prop (λ (x : Laid). IsRoom x.room) room_prop)

pub AreLayouts_prop : (doc : Document) (it : Layouts) → IsProp (AreLayouts doc it)
AreLayouts_prop doc it = hlevel (
  props,
  AllByRecursion-prop (AreTexts doc) (texts_prop doc),
  AllByRecursion-prop (AreStays doc) (stays_prop doc),
)
