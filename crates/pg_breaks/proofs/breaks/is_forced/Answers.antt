use Rattle.std.proofs.Common.{◌∙◌}
use Rattle.pg_breaks.proofs.Answers.{forced-whole, forced-column}
use Rattle.pg_breaks.proofs.breaks.is_forced.Goals as goal

pub returns-clause-whole : goal.returns-clause-whole
returns-clause-whole c = λ picks k named e.
    c.forced_at.ensures.value
    ∙ forced-whole c.args.galley.now.blocks c.forced_at.ensures.shape c.args.place picks k named e

pub returns-clause-column : goal.returns-clause-column
returns-clause-column c = λ start picks n named e.
    c.forced_at.ensures.value
    ∙ forced-column c.args.galley.now.blocks c.forced_at.ensures.shape c.args.place start picks n named e
