use Rattle.std.proofs.Common.{◌≡◌, ◌-◌, ℕ, length, slice_get}
use Rattle.pg_hops.specs.Index.{AreVariantHops}
use Rattle.pg_hops.proofs.index.choice_hops.Given as goal

abbrev pub invariant-variants : goal.invariant-variants
invariant-variants l = record {
  count : l.variant ≡ length l.all.items;
  hops : (variant : ℕ) →
      AreVariantHops l.galley.blocks l.style.maxdepth l.block variant (slice_get l.all.items variant);
}

abbrev pub decreases-variants : goal.decreases-variants
decreases-variants l = 1048576 - l.variant
