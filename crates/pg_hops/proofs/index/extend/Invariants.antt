use Rattle.std.proofs.Common.{◌-◌, length}
use Rattle.pg_hops.specs.Index.{AreHops}
use Rattle.pg_hops.proofs.index.extend.Given as goal

abbrev pub invariant-more : goal.invariant-more
invariant-more l = record {
  hops : AreHops l.galley.blocks l.style.maxdepth l.fn.rows.items →
      AreHops l.galley.blocks l.style.maxdepth l.rows.items;
}

abbrev pub decreases-more : goal.decreases-more
decreases-more l = 1048576 - length l.rows.items
