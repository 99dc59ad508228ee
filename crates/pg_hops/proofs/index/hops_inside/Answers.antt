use Rattle.pg_hops.proofs.RowHops.{one_hop, one_longer}
use Rattle.pg_hops.proofs.index.hops_inside.Goals as goal

pub items-preserved : goal.items-preserved
items-preserved c = record {
  count = one_longer c.items.index c.items.hops.items c.push.new.self.items c.hop_from.result c.items.invariant.count
      c.in_ok-push.ensures.items;
  hops = one_hop c.args.galley.now.blocks c.args.style.now.maxdepth c.args.block c.args.variant c.items.index
      c.items.hops.items c.push.new.self.items c.hop_from.result c.items.invariant.count c.in_ok-push.ensures.items
      c.hop_from.ensures c.items.invariant.hops;
}
