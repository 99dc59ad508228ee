use Rattle.std.proofs.Common.{arith}
use Rattle.pg_floats.proofs.Lists.{list_total}
use Rattle.pg_floats.proofs.list.FloatList.stays_few.Goals as goal

pub returns : goal.returns
returns c = λ blocks style are. let t = list_total blocks style c.args.self.now are in
    omega (arith, t, c.stays_kept.ensures.few)
