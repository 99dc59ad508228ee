use Rattle.pg_pages.proofs.GapLists.{more_times}
use Rattle.pg_pages.proofs.gaps.push_times.Goals as goal

pub loop-preserved : goal.loop-preserved
loop-preserved c =
    more_times c.args.gap c.args.gaps.now.items c.loop.gaps.items c.push.new.self.items c.loop.counter c.loop.invariant
    c.in_ok-push.ensures.items
