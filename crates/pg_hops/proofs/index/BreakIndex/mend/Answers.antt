use Rattle.std.proofs.Common.{sym, subst, List}
use Rattle.pg_hops.specs.Index.{AreHops}
use Rattle.pg_hops.specs.declared.index.Row.{Row}
use Rattle.pg_hops.proofs.index.BreakIndex.mend.Goals as goal

pub returns : goal.returns
returns c blocks same are = c.extend.ensures (c.cut.ensures blocks c.args.galley.now.blocks c.args.style.now.maxdepth
    same (subst (λ (rows : List Row). AreHops blocks c.args.style.now.maxdepth rows) (sym c.self.view_is) are))
