use Rattle.std.proofs.Common.{◌≡◌, ◌-◌, length}
use Rattle.pg_hops.specs.Index.{AreHopsInside}
use Rattle.pg_hops.proofs.index.hops_inside.Given as goal

abbrev pub invariant-items : goal.invariant-items
invariant-items l = record {
  count : l.index ≡ length l.hops.items;
  hops : AreHopsInside l.galley.blocks l.style.maxdepth l.block l.variant l.hops.items;
}

abbrev pub decreases-items : goal.decreases-items
decreases-items l = 1048576 - l.index
