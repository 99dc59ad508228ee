-- The ends of a column of text.
use Rattle.std.specs.Prelude.{◌≡◌, ◌<◌, ◌⊎◌, ℕ, true, List, Some, Contains, AllPairs}
use Rattle.std.specs.declared.cmp.Ordering.TheVariants.{Less}
use Rattle.pg_list.specs.declared.galley.Place.{Place}
use Rattle.pg_plan.specs.Order.{place_cmp}
use Rattle.pg_rules.specs.BestPicks.{IsLeast, keeps_text}
use Rattle.pg_rules.specs.Cost.{pick_demerits}
use Rattle.pg_rules.specs.History.{column_fitness}
use Rattle.pg_rules.specs.Room.{ColumnContext, Document, is_text, size_of}
use Rattle.pg_column.specs.Numbers.{AreNumbers, text_room}
use Rattle.pg_column.specs.declared.cost.TextRoom.{TextRoom}
use Rattle.pg_column.specs.declared.end.End.{End}

-- a column of text from a place of the galley, in this room
pub record IsColumnIn (doc : Document) (from : Place) (room : TextRoom) (it : ColumnContext) : Type 0 where
  pub document : it.document ≡ doc
  pub starts : it.column.from ≡ from
  pub room_is : text_room it ≡ room
  pub text : is_text it ≡ true

-- the end is that of a column that keeps the rules on its text, with the best picks
pub record IsEndOf (it : ColumnContext) (end : End) : Type 0 where
  pub keeps : keeps_text it ≡ true
  pub least : IsLeast it
  pub size : ℕ
  pub size_is : size_of it ≡ Some size
  pub numbers : AreNumbers it size end.cost
  pub pick_demerits : end.pick_demerits ≡ pick_demerits it

-- an end of the list is where the column ends, with its fitness
pub record HasEnd (ends : List End) (it : ColumnContext) : Type 0 where
  pub end : End
  pub listed : Contains ends end
  pub to : end.to ≡ it.column.to
  pub fitness : end.cost.fitness ≡ column_fitness it

-- by place, and at one place by fitness
abbrev pub IsBefore : End → End → Type 0
IsBefore a b = (place_cmp a.to b.to ≡ Less) ⊎ ((a.to ≡ b.to) × (a.cost.fitness < b.cost.fitness))

-- the ends of the columns of text from a place in a room: each place and fitness at which one keeps the rules on its
-- text, once, in order
pub record AreEnds (doc : Document) (from : Place) (room : TextRoom) (ends : List End) : Type 0 where
  pub sound : (end : End) (it : ColumnContext) → Contains ends end → IsColumnIn doc from room it →
      it.column.to ≡ end.to → it.column.picks ≡ end.picks → IsEndOf it end
  pub whole : (it : ColumnContext) → IsColumnIn doc from room it → keeps_text it ≡ true → HasEnd ends it
  pub order : AllPairs IsBefore ends
