use Rattle.std.proofs.Common.{rules}
use Rattle.pg_hops.proofs.RowHops.{are_cut}
use Rattle.pg_hops.proofs.index.cut.Goals as goal

pub returns : goal.returns
returns c = are_cut c.saturating_sub.result c.args.from (search rules) c.args.rows.now.items c.truncate.new.self.items
    c.truncate.ensures.items
