use Rattle.pg_scan.proofs.OneLine.{printed}
use Rattle.pg_scan.proofs.bodies.print_first.Goals as goal

pub returns-clause-text : goal.returns-clause-text
returns-clause-text c = printed c.args.out.now.items c.extend_from_slice.new.self.items c.push.new.self.items c.args.body.now
    c.split_at.result.0.now c.split_at.result.1.now c.args.len c.in_ok-extend_from_slice.ensures.items
    c.in_ok-push.ensures.items c.split_at.ensures.front c.split_at.ensures.back c.requires.len c.requires.more
