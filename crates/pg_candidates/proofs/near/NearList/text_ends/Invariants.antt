use Rattle.std.proofs.Common.{List, map, rc_value, take, ℤ, ◌≤ℤ◌}
use Rattle.std.specs.List.{AllByRecursion}
use Rattle.pg_list.specs.GalleyValue.{GalleyValue}
use Rattle.pg_rules.specs.Legal.{document}
use Rattle.law_walk.specs.Best.{AreBest}
use Rattle.law_walk.specs.Candidates.{Candidate, text_ends}
use Rattle.pg_candidates.specs.Nears.{ArePicks, IsNearIn, needed_in}
use Rattle.pg_candidates.specs.RoomEnds.{ends_of}
use Rattle.pg_candidates.proofs.near.NearList.text_ends.Given as goal

abbrev pub invariant-each : goal.invariant-each
invariant-each l = record {
  best : (g : GalleyValue) (most : ℤ) → l.room.give.stretch ≤ℤ most → (cs : List Candidate) →
      ArePicks cs (map rc_value l.listed) →
      AllByRecursion (IsNearIn (document g l.style) most cs) (take l.near-index l.near-items) →
      AreBest (text_ends (document g l.style) l.room (needed_in l.room.size cs (take l.near-index l.near-items)))
      (ends_of (map rc_value l.listed) l.ends.items);
}
