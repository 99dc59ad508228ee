-- What the ends of a room may be.
use Rattle.std.proofs.Common.{◌≡◌, [], true}
use Rattle.pg_lemmas.proofs.Lists.{none_among}
use Rattle.pg_list.specs.declared.galley.Place.{Place}
use Rattle.pg_rules.specs.BestPicks.{keeps_text}
use Rattle.pg_rules.specs.Room.{ColumnContext, Document}
use Rattle.pg_column.specs.Ends.{AreEnds, IsColumnIn}
use Rattle.pg_column.specs.declared.cost.TextRoom.{TextRoom}

-- where a column of text keeps the rules, there are ends
some_end_where_a_column_ends : (doc : Document) (from : Place) (room : TextRoom) (it : ColumnContext) →
    IsColumnIn doc from room it → keeps_text it ≡ true → AreEnds doc from room [] → ⊥
some_end_where_a_column_ends doc from room it column keeps ends =
    let found = ends.whole it column keeps in
    none_among found.end found.listed
