use Rattle.std.proofs.Common.{sym}
use Rattle.pg_command.specs.Lines.{style_line}
use Rattle.pg_command.proofs.say.say_style_fault.Goals as goal

pub returns-clause-line : goal.returns-clause-line
unfolding style_line
returns-clause-line g c =
    rw (sym c.number.ensures, sym c.from.ensures, sym c.as_slice.ensures, sym c.shown_key.ensures)
    c.say_pieces.ensures.line
