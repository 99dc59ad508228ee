use Rattle.std.proofs.Common.{List, map, subst, sym}
use Rattle.pg_rules.specs.Legal.{document}
use Rattle.pg_candidates.specs.Nears.{NearValue}
use Rattle.pg_candidates.specs.Seen.{AreServedBefore}
use Rattle.pg_candidates.specs.View.{candidate_of}
use Rattle.pg_candidates.proofs.Needed.{none_served}
use Rattle.pg_candidates.proofs.making.nears_alone.Goals as goal

pub loop-at-init : goal.loop-at-init
loop-at-init c = record {
  served = subst (AreServedBefore (document c.args.galley.now c.args.style.now) c.args.most.now.stretch
      (map candidate_of c.args.candidates.now) 0) (sym {A = List NearValue} c.in_ok-nears.ensures.items)
      (none_served (document c.args.galley.now c.args.style.now) c.args.most.now.stretch
      (map candidate_of c.args.candidates.now));
}

pub loop-at-preserved : goal.loop-at-preserved
loop-at-preserved c = record { served = c.in_ok-add_alone.ensures c.loop-at.invariant.served }
