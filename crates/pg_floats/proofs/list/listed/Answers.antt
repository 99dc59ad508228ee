use Rattle.std.proofs.Common.{ap, arith, length, ◌++◌}
use Rattle.std.proofs.Math.Nat.{mul-le-mul}
use Rattle.pg_floats.specs.FloatsValue.{total_of}
use Rattle.pg_floats.proofs.Lists.{lists_few, total_few}
use Rattle.pg_floats.proofs.list.listed.Goals as goal

pub limited-requires-clause-few : goal.limited-requires-clause-few
limited-requires-clause-few c =
    let h = lists_few (c.args.before.now ++ c.args.fresh.now ++ c.args.behind.now) c.args.classes.now in
    let e = ap length c.in-Ok.ensures in
    omega (arith, h, e, c.requires.classes)

pub limited-requires-clause-total : goal.limited-requires-clause-total
limited-requires-clause-total c =
    let h = total_few (c.args.before.now ++ c.args.fresh.now ++ c.args.behind.now) c.args.classes.now c.requires.shape in
    let e = ap total_of c.in-Ok.ensures in
    let m = mul-le-mul c.requires.few c.requires.classes in
    omega (arith, h, e, m)
