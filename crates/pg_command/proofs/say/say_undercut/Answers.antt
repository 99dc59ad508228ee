use Rattle.pg_command.specs.Lines.{undercut_line}
use Rattle.pg_command.proofs.say.say_undercut.Goals as goal

pub returns-clause-line : goal.returns-clause-line
unfolding undercut_line
returns-clause-line g c = c.say_pieces.ensures.line
