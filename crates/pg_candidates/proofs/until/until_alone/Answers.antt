use Rattle.pg_rules.specs.Legal.{document}
use Rattle.pg_candidates.proofs.Beside.{hopeless_from}
use Rattle.pg_candidates.proofs.until.until_alone.Goals as goal

pub returns-then-is_refused : goal.returns-then-is_refused
returns-then-is_refused c = λ g most it is worst.
    hopeless_from (document g c.args.style.now) most c.args.kind it is
    (c.is_refused.ensures.forced c.if-is_refused.true) (c.is_refused.ensures.spent c.if-is_refused.true)
    (c.is_refused.ensures.strict c.if-is_refused.true) c.args.worst worst
