use Rattle.std.proofs.Common.{◌+◌, length, refl}
use Rattle.pg_floats.proofs.InParts.{callouts_made}
use Rattle.pg_floats.proofs.callouts.callouts_of.Goals as goal

pub returns : goal.returns
returns c = callouts_made c.args.number (length c.args.before.now)
    (length c.args.before.now + length c.args.fresh.now) c.next_barrier-past_before.result
    c.next_barrier-past_fresh.result c.args.before.now c.args.fresh.now c.args.behind.now
    c.new-callouts.result c.push_blocks.new.out c.push_blocks-2.new.out c.push_blocks-3.new.out refl refl
    c.next_barrier-past_fresh.ensures c.next_barrier-past_before.ensures c.new-callouts.ensures
    c.in_ok-push_blocks.ensures c.in_ok-push_blocks-2.ensures c.in_ok-push_blocks-3.ensures
