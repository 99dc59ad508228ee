use Rattle.pg_hops.proofs.RowHops.{one_longer, one_variant}
use Rattle.pg_hops.proofs.index.choice_hops.Goals as goal

pub variants-preserved : goal.variants-preserved
variants-preserved c = record {
  count = one_longer c.variants.variant c.variants.all.items c.push.new.self.items c.in_ok-variant_hops.field-0
      c.variants.invariant.count c.in_ok-push.ensures.items;
  hops = one_variant c.args.galley.now.blocks c.args.style.now.maxdepth c.args.block c.variants.variant
      c.variants.all.items c.push.new.self.items c.in_ok-variant_hops.field-0 c.variants.invariant.count
      c.in_ok-push.ensures.items c.in_ok-variant_hops.ensures c.variants.invariant.hops;
}
