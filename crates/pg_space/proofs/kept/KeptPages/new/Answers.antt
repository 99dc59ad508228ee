use Rattle.std.proofs.Common.{◌∙◌}
use Rattle.pg_hops.specs.Index.{AreHops}
use Rattle.pg_list.specs.GalleyValue.{GalleyValue}
use Rattle.pg_style.specs.Values.{StyleValue}
use Rattle.pg_space.proofs.Telling.{of_equal}
use Rattle.pg_space.proofs.kept.KeptPages.new.Goals as goal

pub invariant_of-result : goal.invariant_of-result
invariant_of-result g c = record {
  hops = of_equal (λ (galley : GalleyValue) (style : StyleValue).
      AreHops galley.blocks style.maxdepth c.args.index.now) _ _ _ _ c.requires.galley c.requires.style c.requires.hops;
  galley = c.new.ensures.galley ∙ c.requires.galley;
  style = c.new.ensures.style ∙ c.requires.style;
}
