use Rattle.std.proofs.Common.{length, ℤ}
use Rattle.std.specs.List.{AllByRecursion}
use Rattle.pg_list.specs.declared.galley.Place.{Place}
use Rattle.pg_rules.specs.Legal.{document}
use Rattle.law_walk.specs.Laws.{AreUpTo}
use Rattle.pg_candidates.specs.Nears.{AreNearFrom, IsWithin}
use Rattle.pg_walk.specs.Rooms.{IsAsked}
use Rattle.pg_walk.proofs.Several.{AreLeft}
use Rattle.pg_walk.proofs.rooms.ends_near.Given as goal

abbrev pub invariant-rooms : goal.invariant-rooms
invariant-rooms l = record {
  asked : AllByRecursion IsAsked l.left;
  lists : (from : Place) (top most : ℤ) → AreNearFrom (document l.galley l.style) from top most l.nears →
      AreUpTo top l.rooms → AllByRecursion (IsWithin most) l.rooms →
      AreLeft (document l.galley l.style) from top most l.rooms l.left l.lists;
}

abbrev pub decreases-rooms : goal.decreases-rooms
decreases-rooms l = length l.left
