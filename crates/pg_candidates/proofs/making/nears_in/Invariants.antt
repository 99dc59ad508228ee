use Rattle.std.proofs.Common.{map, take}
use Rattle.pg_rules.specs.Legal.{document}
use Rattle.pg_candidates.specs.Seen.{AreSeen}
use Rattle.pg_candidates.specs.View.{candidate_of}
use Rattle.pg_candidates.specs.declared.order.Ranked.{Ranked}
use Rattle.pg_candidates.proofs.making.nears_in.Given as goal

abbrev pub invariant-each : goal.invariant-each
invariant-each l = record {
  seen : AreSeen (document l.galley l.style) l.most.stretch (map candidate_of l.candidates)
      (map (λ (it : Ranked). it.at) (take l.it-index l.order)) l.made.first l.made.nears.items;
}
