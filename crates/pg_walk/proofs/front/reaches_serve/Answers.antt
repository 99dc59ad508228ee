use Rattle.pg_rules.specs.Legal.{document}
use Rattle.pg_walk.proofs.Behind.{reaches_all}
use Rattle.pg_walk.proofs.front.reaches_serve.Goals as goal

pub returns : goal.returns
returns c = reaches_all (document c.args.galley.now c.args.style.now) c.walk_tells_reach.ensures.labels
