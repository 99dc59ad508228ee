use Rattle.pg_command.specs.Lines.{usage_line, long_line, unread_line, output_line, memory_line}
use Rattle.pg_command.proofs.say.say_line.Goals as goal

pub returns-in-Usage-clause-line : goal.returns-in-Usage-clause-line
unfolding usage_line
returns-in-Usage-clause-line g c = rw c.in-Usage.is c.say_text.ensures.line

pub returns-in-TooLong-clause-line : goal.returns-in-TooLong-clause-line
unfolding long_line
returns-in-TooLong-clause-line g c = rw c.in-TooLong.is c.say_file.ensures.line

pub returns-in-Unread-clause-line : goal.returns-in-Unread-clause-line
unfolding unread_line
returns-in-Unread-clause-line g c = rw c.in-Unread.is c.say_file-in-Unread.ensures.line

pub returns-in-WriteFault-clause-line : goal.returns-in-WriteFault-clause-line
unfolding output_line
returns-in-WriteFault-clause-line g c = rw c.in-WriteFault.is c.say_text-in-WriteFault.ensures.line

pub returns-in-Memory-clause-line : goal.returns-in-Memory-clause-line
unfolding memory_line
returns-in-Memory-clause-line g c = rw c.in-Memory.is c.say_text-in-Memory.ensures.line
