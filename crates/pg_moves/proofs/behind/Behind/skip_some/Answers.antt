use Rattle.std.proofs.Common.{rules}
use Rattle.pg_rooms.proofs.Grouped.{no_end, split_read}
use Rattle.pg_moves.proofs.Late.{skip_more, skip_none}
use Rattle.pg_moves.proofs.behind.Behind.skip_some.Goals as goal

pub ends-init : goal.ends-init
ends-init c = skip_none _ _ _ _ _ (search rules) (search rules)

pub ends-preserved : goal.ends-preserved
ends-preserved c = skip_more c.args.style.now c.args.state.now c.args.self.now c.args.ends.now c.ends.rest.now _ _ _ _
    (split_read c.ends.rest.now no_end c.in-len1-up.len_at_least) c.ends.invariant c.is_late.ensures.asked
    c.is_late.ensures.same (c.is_late.ensures.late c.if-not-is_late.false)
