use Rattle.pg_command.specs.Lines.{memory_line}
use Rattle.pg_command.proofs.say.say_paragraph_fault.Goals as goal

pub returns-in-Memory-clause-line : goal.returns-in-Memory-clause-line
unfolding memory_line
returns-in-Memory-clause-line g c = rw c.in-Memory.is c.say_text.ensures.line
