use Rattle.std.proofs.Common.{map}
use Rattle.pg_rules.specs.Legal.{document}
use Rattle.pg_candidates.specs.Seen.{AreServedBefore}
use Rattle.pg_candidates.specs.View.{candidate_of}
use Rattle.pg_candidates.proofs.making.nears_alone.Given as goal

abbrev pub invariant-loop-at : goal.invariant-loop-at
invariant-loop-at l = record {
  served : AreServedBefore (document l.galley l.style) l.most.stretch (map candidate_of l.candidates) l.at l.nears.items;
}
