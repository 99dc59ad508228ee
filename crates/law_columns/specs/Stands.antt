-- Columns of which each may stand after those before it.
use Rattle.std.specs.Prelude.{◌≡◌, true, List, [], ◌∷◌}
use Rattle.pg_plan.specs.declared.pages.PageMove.{PageMove}
use Rattle.pg_list.specs.Flat.{is_same_place}
use Rattle.pg_rules.specs.Follow.{MayStand}
use Rattle.pg_rules.specs.History.{next_column, next_run, place_of, placed_of, context}
use Rattle.pg_rules.specs.Legal.{is_near}
use Rattle.pg_rules.specs.Room.{Document}
use Rattle.pg_rules.specs.States.{can_wait}

-- the column may stand after these
pub record StandsAfter (doc : Document) (m : PageMove) (ms : List PageMove) : Type 0 where
  pub starts : is_same_place m.column.from (place_of ms) ≡ true
  pub stands : MayStand doc (next_column doc.style ms) (next_run doc.style ms) (placed_of doc.style ms) m
      (context doc m ms)
  pub near : is_near doc m ms ≡ true

abbrev pub Stand : Document → List PageMove → Type 0
Stand doc [] = Unit {0}
Stand doc (m ∷ ms) = StandsAfter doc m ms × Stand doc ms

-- each column may stand, and no float has waited too long
pub record IsBeginning (doc : Document) (ms : List PageMove) : Type 0 where
  pub stand : Stand doc ms
  pub waits : can_wait doc ms ≡ true
