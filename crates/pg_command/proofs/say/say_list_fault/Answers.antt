use Rattle.std.proofs.Common.{sym}
use Rattle.pg_command.specs.Lines.{list_line}
use Rattle.pg_command.proofs.say.say_list_fault.Goals as goal

pub returns-clause-line : goal.returns-clause-line
unfolding list_line
returns-clause-line g c = rw (sym c.number.ensures, sym c.from.ensures) c.say_pieces.ensures.line
