use Rattle.std.proofs.Common.{rules, arith, ◌≡◌}
use Rattle.pg_floats.specs.Areas.{sizes_together}
use Rattle.pg_floats.proofs.AreaSums.{sum_few}
use Rattle.pg_floats.proofs.area.together.Goals as goal

pub returns-clause-size : goal.returns-clause-size
returns-clause-size c =
    let sizes : c.sum.result ≡ sizes_together c.args.callouts.now = search rules in
    omega (arith, sum_few c.args.callouts.now c.requires.range, sizes)
