use Rattle.std.proofs.Common.{sym}
use Rattle.pg_command.specs.Lines.{memory_line}
use Rattle.pg_command.proofs.say.say_no.Goals as goal

pub returns-in-PagesDiffer-clause-line : goal.returns-in-PagesDiffer-clause-line
returns-in-PagesDiffer-clause-line g c = rw c.in-PagesDiffer.is c.say_number.ensures.line

pub returns-in-BadLabel-clause-line : goal.returns-in-BadLabel-clause-line
returns-in-BadLabel-clause-line g c =
    rw (c.in-BadLabel.is, sym c.from.ensures) c.say_number-in-BadLabel.ensures.line

pub returns-in-NoStart-clause-line : goal.returns-in-NoStart-clause-line
returns-in-NoStart-clause-line g c = rw c.in-NoStart.is c.say_text.ensures.line

pub returns-in-FinalInNone-clause-line : goal.returns-in-FinalInNone-clause-line
returns-in-FinalInNone-clause-line g c =
    rw (c.in-FinalInNone.is, sym c.from-in-FinalInNone.ensures) c.say_number-in-FinalInNone.ensures.line

pub returns-in-Memory-clause-line : goal.returns-in-Memory-clause-line
unfolding memory_line
returns-in-Memory-clause-line g c = rw c.in-Memory.is c.say_text-in-Memory.ensures.line
