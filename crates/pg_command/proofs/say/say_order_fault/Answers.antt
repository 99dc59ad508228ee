use Rattle.std.proofs.Common.{sym}
use Rattle.pg_command.specs.Lines.{order_line}
use Rattle.pg_command.proofs.say.say_order_fault.Goals as goal

pub returns-clause-line : goal.returns-clause-line
unfolding order_line
returns-clause-line g c = rw (sym c.from.ensures) c.say_pieces.ensures.line
