-- What is called before places.
use Rattle.std.specs.Prelude.{◌≡◌, List}
use Rattle.std.specs.List.{AllByRecursion}
use Rattle.pg_list.specs.declared.galley.Place.{Place}
use Rattle.pg_rules.specs.Room.{Document}
use Rattle.pg_sources.specs.Document.{before_of}
use Rattle.pg_rooms.specs.declared.calls.Call.{Call}

-- before the one place, and before the last barrier in front of it, the same floats are called as before the other
pub record IsLike (doc : Document) (like at : Place) : Type 0 where
  pub same : before_of doc like ≡ before_of doc at

-- each call names such a place
pub record AreCalls (doc : Document) (calls : List Call) : Type 0 where
  pub all : AllByRecursion (λ (call : Call). IsLike doc call.like call.at) calls
