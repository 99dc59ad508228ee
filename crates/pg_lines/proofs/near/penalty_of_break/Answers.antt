use Rattle.std.proofs.Common.{◌∙◌}
use Rattle.pg_lines.proofs.NearLaws.{penalty_is}
use Rattle.pg_lines.proofs.near.penalty_of_break.Goals as goal

pub returns : goal.returns
returns c = c.near_penalty_at.ensures ∙ penalty_is c.args.items.now c.args.place
