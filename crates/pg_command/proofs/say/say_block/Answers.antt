use Rattle.pg_command.specs.Lines.{block_line}
use Rattle.pg_command.proofs.say.say_block.Goals as goal

pub returns-clause-line : goal.returns-clause-line
unfolding block_line
returns-clause-line g c = c.say_pieces.ensures.line
