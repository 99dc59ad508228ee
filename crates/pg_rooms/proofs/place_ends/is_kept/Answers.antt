use Rattle.std.proofs.Common.{sym, ◌∙◌}
use Rattle.pg_rooms.proofs.place_ends.is_kept.Goals as goal

pub returns : goal.returns
returns c = c.is_some.ensures ∙ sym c.kept.ensures.has
