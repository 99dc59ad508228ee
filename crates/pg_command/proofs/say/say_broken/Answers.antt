use Rattle.std.proofs.Common.{sym}
use Rattle.pg_command.specs.Lines.{broken_line}
use Rattle.pg_command.proofs.say.say_broken.Goals as goal

pub returns-clause-line : goal.returns-clause-line
unfolding broken_line
returns-clause-line g c = rw (sym c.from.ensures) c.say_pieces.ensures.line
