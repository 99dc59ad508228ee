use Rattle.std.proofs.Common.{sym, ◌∙◌}
use Rattle.pg_rooms.proofs.calls.calls_so_many.Goals as goal

pub returns : goal.returns
returns c = λ t.
    sym c.in_ok-before.ensures ∙ c.is_same.ensures t
