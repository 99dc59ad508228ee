use Rattle.std.proofs.Common.{ap}
use Rattle.std.specs.Prelude.{nat_lt}
use Rattle.pg_judge.proofs.floats.is_called.Goals as goal

pub returns : goal.returns
returns c = ap (nat_lt c.args.number) (c.called.ensures c.args.basis.now.style.now c.requires.floats)
