use Rattle.std.proofs.Common.{◌∙◌}
use Rattle.pg_walk.specs.WalkLawful.{totals_tests}
use Rattle.pg_walk.proofs.space.same_totals.Goals as goal

pub returns : goal.returns
returns c = c.eq.ensures ∙ totals_tests c.args.a c.args.b
