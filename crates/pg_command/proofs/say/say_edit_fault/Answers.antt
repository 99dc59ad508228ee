use Rattle.std.proofs.Common.{sym}
use Rattle.pg_command.specs.Lines.{edit_line}
use Rattle.pg_command.proofs.say.say_edit_fault.Goals as goal

pub returns-clause-line : goal.returns-clause-line
unfolding edit_line
returns-clause-line g c = rw (sym c.number.ensures, sym c.from.ensures) c.say_pieces.ensures.line
