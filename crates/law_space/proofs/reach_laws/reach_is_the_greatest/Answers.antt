use Rattle.pg_rules.specs.Legal.{document}
use Rattle.law_space.proofs.ReachContracts.{reach_only}
use Rattle.law_space.proofs.ReachAt.{reach_is}
use Rattle.law_space.proofs.reach_laws.reach_is_the_greatest.Goals as goal

pub returns : goal.returns
returns c = λ from p. (
  reach_is (document c.args.galley.now c.args.style.now) c.requires from p,
  λ n r. reach_only (document c.args.galley.now c.args.style.now) c.requires from n p r,
)
