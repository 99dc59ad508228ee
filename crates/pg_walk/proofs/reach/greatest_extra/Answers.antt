use Rattle.std.proofs.Common.{rules, pos, w32}
use Rattle.std.proofs.lemmas.Int.{to_z-of_z}
use Rattle.pg_walk.proofs.FurthestBlocks.{extras_are}
use Rattle.pg_walk.proofs.reach.greatest_extra.Goals as goal

pub runs-init : goal.runs-init
runs-init c =
    extras_are c.args.runs.now (record { extra = pos 0; demerits = 0 }) _ c.in-len1-up.len_at_least
    (to_z-of_z w32 _ (record { sfits = search rules }))
