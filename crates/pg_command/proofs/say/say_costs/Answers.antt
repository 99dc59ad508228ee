use Rattle.pg_command.specs.Lines.{costs_line}
use Rattle.pg_command.proofs.say.say_costs.Goals as goal

pub returns-clause-line : goal.returns-clause-line
unfolding costs_line
returns-clause-line g c = c.say_pieces.ensures.line
