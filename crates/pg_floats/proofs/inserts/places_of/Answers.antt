use Rattle.std.proofs.Common.{◌+◌, length, refl}
use Rattle.pg_floats.proofs.InParts.{places_made}
use Rattle.pg_floats.proofs.inserts.places_of.Goals as goal

pub returns : goal.returns
returns c = places_made c.args.number (length c.args.before.now)
    (length c.args.before.now + length c.args.fresh.now) c.args.before.now c.args.fresh.now c.args.behind.now
    c.new-places.result.items c.push_blocks.new.out.items c.push_blocks-2.new.out.items c.push_blocks-3.new.out.items
    refl refl c.new-places.ensures.items c.in_ok-push_blocks.ensures c.in_ok-push_blocks-2.ensures
    c.in_ok-push_blocks-3.ensures
