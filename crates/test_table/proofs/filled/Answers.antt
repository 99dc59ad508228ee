use Rattle.std.proofs.Common.{inr}
use Rattle.test_table.proofs.filled.Goals as goal

pub refill-requires : goal.refill-requires
refill-requires g c = inr (c.table_is_right_below.ensures c.args.load.below)
