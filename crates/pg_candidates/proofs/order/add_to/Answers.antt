use Rattle.pg_candidates.proofs.Ordered.{added_first, added_last}
use Rattle.pg_candidates.proofs.order.add_to.Goals as goal

pub returns-in_ok-push : goal.returns-in_ok-push
returns-in_ok-push c =
    let group = c.args.group.now in
    added_first group.others.items _ group.first c.args.it c.in_ok-push.ensures.items

pub returns-in_ok-push-2 : goal.returns-in_ok-push-2
returns-in_ok-push-2 c =
    let group = c.args.group.now in
    added_last group.others.items _ group.first c.args.it c.in_ok-push-2.ensures.items
