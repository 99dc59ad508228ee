use Rattle.pg_sources.proofs.Same.{one_list}
use Rattle.pg_sources.proofs.calls.are_equal.Goals as goal

pub returns : goal.returns
returns c = one_list c.args.a.now c.args.b.now c.eq.result c.eq.ensures
