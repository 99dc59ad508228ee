use Rattle.std.proofs.Common.{sym}
use Rattle.pg_command.specs.Lines.{class_line}
use Rattle.pg_command.proofs.say.say_class.Goals as goal

pub returns-clause-line : goal.returns-clause-line
unfolding class_line
returns-clause-line g c = rw (sym c.from.ensures) c.say_pieces.ensures.line
