use Rattle.std.proofs.Common.{ap, ◌∙◌, ℤ, Option}
use Rattle.std.specs.Prelude.{is_some}
use Rattle.pg_rules.specs.Floats.{floats}
use Rattle.pg_floats.proofs.Heights.{is_there}
use Rattle.pg_judge.proofs.added.has_floats.Goals as goal

pub returns : goal.returns
returns c = λ blocks are. c.is_some.ensures
    ∙ (ap (λ (o : Option ℤ). is_some o) (c.area.ensures blocks c.args.style.now are)
    ∙ is_there (floats blocks c.args.style.now) c.style.inside.wide c.args.placed.now c.args.counts.now)
