use Rattle.std.proofs.Common.{◌∙◌, ap, w64}
use Rattle.std.proofs.lemmas.Int.{to_z-of_z}
use Rattle.pg_style.specs.Values.{StyleValue}
use Rattle.pg_column.proofs.Numbers.{fit_in}
use Rattle.pg_column.proofs.cost.fitness.Goals as goal

pub returns-else-style-eq1 : goal.returns-else-style-eq1
returns-else-style-eq1 c =
    c.fitness_of.ensures
    ∙ fit_in c.args.style.now.version c.args.total c.args.goal c.args.badness _ _
    (λ e. c.if-style-eq1.false (ap (λ (style : StyleValue). style.version) c.style.view_is ∙ e))
    (to_z-of_z w64 c.args.total c.ranges.total) (to_z-of_z w64 c.args.goal c.ranges.goal)
