use Rattle.pg_command.specs.Lines.{unbroken_line}
use Rattle.pg_command.proofs.say.say_unbroken.Goals as goal

pub returns-clause-line : goal.returns-clause-line
unfolding unbroken_line
returns-clause-line g c = c.say_pieces.ensures.line
