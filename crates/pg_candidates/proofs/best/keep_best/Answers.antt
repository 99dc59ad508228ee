use Rattle.std.proofs.Common.{map, rc_value}
use Rattle.pg_candidates.proofs.Putting.{put_last}
use Rattle.pg_candidates.proofs.best.keep_best.Goals as goal

pub returns-then-is_behind_all : goal.returns-then-is_behind_all
returns-then-is_behind_all c = λ order.
    put_last (map rc_value c.args.listed.now) c.args.end c.args.ends.now.items c.as_slice.result.now _ order
    c.as_slice.ensures.value c.in_ok-push.ensures.items (c.is_behind_all.ensures c.if-is_behind_all.true)
