use Rattle.pg_rules.specs.Legal.{document}
use Rattle.law_space.proofs.Next.{next_low}
use Rattle.law_space.proofs.reach_laws.columns_stay_below.Goals as goal

pub returns : goal.returns
returns c = λ u m v k o f. next_low (document c.args.galley.now c.args.style.now) c.requires.blocks c.requires.style u m v k o f
