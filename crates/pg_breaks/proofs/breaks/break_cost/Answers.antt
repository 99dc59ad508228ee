use Rattle.std.proofs.Common.{◌∙◌}
use Rattle.pg_breaks.proofs.Answers.{penalty-whole, penalty-column}
use Rattle.pg_breaks.proofs.breaks.break_cost.Goals as goal

pub returns-clause-whole : goal.returns-clause-whole
returns-clause-whole c = λ picks k named e.
    c.penalty_at.ensures.value
    ∙ penalty-whole c.args.galley.now.blocks c.penalty_at.ensures.shape c.args.place picks k named e

pub returns-clause-column : goal.returns-clause-column
returns-clause-column c = λ start picks n named e some.
    c.penalty_at.ensures.value
    ∙ penalty-column c.args.galley.now.blocks c.penalty_at.ensures.shape c.args.place start picks n named e some
