use Rattle.std.proofs.Common.{◌++◌, ap, arith, length}
use Rattle.pg_list.specs.Shapes.{IsBlock}
use Rattle.pg_floats.proofs.InParts.{all_last, all_middle, parts_few}
use Rattle.pg_floats.proofs.Places.{places_few}
use Rattle.pg_floats.proofs.list.push_class.Goals as goal

pub callouts_of-requires-clause-fresh : goal.callouts_of-requires-clause-fresh
callouts_of-requires-clause-fresh c =
    all_middle IsBlock c.args.before.now c.args.fresh.now c.args.behind.now c.requires.shape

pub callouts_of-requires-clause-behind : goal.callouts_of-requires-clause-behind
callouts_of-requires-clause-behind c =
    all_last IsBlock c.args.before.now c.args.fresh.now c.args.behind.now c.requires.shape

pub callouts_of-requires-clause-few : goal.callouts_of-requires-clause-few
callouts_of-requires-clause-few c =
    parts_few c.args.before.now c.args.fresh.now c.args.behind.now c.requires.shape c.requires.few

pub places_of-requires-clause-blocks : goal.places_of-requires-clause-blocks
places_of-requires-clause-blocks c =
    parts_few c.args.before.now c.args.fresh.now c.args.behind.now c.requires.shape c.requires.few

pub invariant_of-push : goal.invariant_of-push
invariant_of-push c =
    let few = places_few c.args.class.now.number 0 (c.args.before.now ++ c.args.fresh.now ++ c.args.behind.now) in
    let e = ap length c.in_ok-places.ensures in
    omega (arith, few, e, c.requires.few)
