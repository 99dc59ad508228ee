use Rattle.pg_command.specs.Lines.{no_output_line}
use Rattle.pg_command.proofs.say.say_no_output.Goals as goal

pub returns-clause-line : goal.returns-clause-line
unfolding no_output_line
returns-clause-line g c = c.say_pieces.ensures.line
