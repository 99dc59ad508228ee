use Rattle.pg_command.specs.Lines.{memory_line}
use Rattle.pg_command.proofs.say.say_no_fit.Goals as goal

pub returns-in-Columns-clause-line : goal.returns-in-Columns-clause-line
returns-in-Columns-clause-line g c = rw c.in-Columns.is c.say_text.ensures.line

pub returns-in-Choice-clause-line : goal.returns-in-Choice-clause-line
returns-in-Choice-clause-line g c = rw c.in-Choice.is c.say_block.ensures.line

pub returns-in-Float-clause-line : goal.returns-in-Float-clause-line
returns-in-Float-clause-line g c = rw c.in-Float.is c.say_block-in-Float.ensures.line

pub returns-in-Memory-clause-line : goal.returns-in-Memory-clause-line
unfolding memory_line
returns-in-Memory-clause-line g c = rw c.in-Memory.is c.say_text-in-Memory.ensures.line
