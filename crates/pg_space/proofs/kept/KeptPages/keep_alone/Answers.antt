use Rattle.std.proofs.Common.{◌≡◌, ◌∙◌}
use Rattle.pg_list.specs.GalleyValue.{GalleyValue}
use Rattle.law_space.specs.ReachAt.{reach_at}
use Rattle.pg_rules.specs.Legal.{document}
use Rattle.pg_sources.specs.Document.{counts_of}
use Rattle.pg_style.specs.Values.{StyleValue}
use Rattle.pg_space.proofs.Merely.{alone_on}
use Rattle.pg_space.proofs.Telling.{of_equal}
use Rattle.pg_space.proofs.kept.KeptPages.keep_alone.Goals as goal

pub reach_is_the_greatest-requires : goal.reach_is_the_greatest-requires
reach_is_the_greatest-requires g c = c.args.self.now.pages.sources.in_range.blocks

pub counts_at-requires : goal.counts_at-requires
counts_at-requires g c = (c.reach_is_the_greatest.ensures c.args.from c.requires.place).1 c.args.first.reach c.requires.reach

pub invariant_of-result : goal.invariant_of-result
invariant_of-result g c = record {
  right = alone_on _ _ _ _ c.args.self.now.galley c.args.self.now.style c.args.from c.requires.place c.deref_mut.result.now
      c.go_on.new.self c.args.first c.args.shared.ends.value c.deref_mut.ensures.value c.args.shared.alone c.requires.tells
      c.args.shared.right c.in_ok-go_on.ensures.right;
  laid = c.args.shared.laid;
  reach = c.in_ok-go_on.ensures.reach ∙ of_equal
      (λ (galley : GalleyValue) (style : StyleValue).
      c.args.first.reach ≡ reach_at (document galley style) c.args.from) _ _ _ _
      c.args.self.now.galley c.args.self.now.style
      ((c.reach_is_the_greatest.ensures c.args.from c.requires.place).1 c.args.first.reach c.requires.reach);
  counts = c.in_ok-go_on.ensures.counts ∙ of_equal
      (λ (galley : GalleyValue) (style : StyleValue).
      c.in_ok-counts.counts ≡ counts_of (document galley style) c.args.from) _ _ _ _
      c.args.self.now.galley c.args.self.now.style c.in_ok-counts.ensures;
}
