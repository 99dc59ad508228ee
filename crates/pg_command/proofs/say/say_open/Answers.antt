use Rattle.std.proofs.Common.{[], ◌∷◌}
use Rattle.std.specs.Prelude.{decimal}
use Rattle.pg_command.specs.Lines.{open_line}
use Rattle.pg_command.proofs.Pieces.{three_parts}
use Rattle.pg_command.proofs.say.say_open.Goals as goal

pub returns-clause-line : goal.returns-clause-line
unfolding open_line
returns-clause-line g c =
    rw (three_parts (decimal c.args.to.block) (32 ∷ decimal c.args.to.variant) (32 ∷ decimal c.args.to.index)
    (10 ∷ [])) c.say_pieces.ensures.line
