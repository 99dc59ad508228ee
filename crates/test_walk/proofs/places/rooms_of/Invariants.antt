use Rattle.std.specs.List.{AllByRecursion}
use Rattle.pg_walk.specs.Rooms.{IsAsked}
use Rattle.test_walk.proofs.places.rooms_of.Given as goal

abbrev pub invariant-words : goal.invariant-words
invariant-words l = AllByRecursion IsAsked l.rooms.items
