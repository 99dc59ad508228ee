use Rattle.pg_command.specs.Lines.{many_items_line}
use Rattle.pg_command.proofs.say.say_many_items.Goals as goal

pub returns-clause-line : goal.returns-clause-line
unfolding many_items_line
returns-clause-line g c = c.say_pieces.ensures.line
