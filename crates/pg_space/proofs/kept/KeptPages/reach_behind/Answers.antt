use Rattle.std.proofs.Common.{sym}
use Rattle.pg_hops.specs.Index.{AreHops}
use Rattle.pg_list.specs.GalleyValue.{GalleyValue}
use Rattle.pg_rules.specs.Legal.{document}
use Rattle.pg_style.specs.Values.{StyleValue}
use Rattle.pg_walk.proofs.Behind.{state_itself}
use Rattle.pg_walk.specs.Fronts.{IsReachBehind}
use Rattle.pg_walk.specs.Meaning.{state_of}
use Rattle.pg_space.proofs.Merely.{kept_reach}
use Rattle.pg_space.proofs.Telling.{of_equal}
use Rattle.pg_space.proofs.kept.KeptPages.reach_behind.Goals as goal

pub reach_is_the_greatest-requires : goal.reach_is_the_greatest-requires
reach_is_the_greatest-requires g c = c.args.self.now.pages.sources.in_range.blocks

pub reach_behind-requires-clause-hops : goal.reach_behind-requires-clause-hops
reach_behind-requires-clause-hops g c = of_equal (λ (galley : GalleyValue) (style : StyleValue).
    AreHops galley.blocks style.maxdepth c.args.self.now.index.now) _ _ _ _
    (sym c.args.self.now.galley) (sym c.args.self.now.style) c.args.self.now.hops

pub invariant_of-told : goal.invariant_of-told
invariant_of-told g c = record {
  right = ∣ of_equal (λ (galley : GalleyValue) (style : StyleValue).
      IsReachBehind (document galley style) c.args.start c.in_ok-reach.reach) _ _ _ _
      c.args.self.now.galley c.args.self.now.style c.in_ok-reach.ensures ∣₁;
}

pub returns-in-Some : goal.returns-in-Some
returns-in-Some g c = kept_reach _ _ _ _ c.args.self.now.galley c.args.self.now.style c.args.from c.requires.place
    c.args.start c.in-Some.kept.now.start c.in-Some.kept.now.reach c.reaches_serve.ensures
    c.reach_is_the_greatest.ensures c.requires.start c.in-Some.ensures c.in-Some.kept.now.right

pub returns : goal.returns
returns g c = (c.reach_is_the_greatest.ensures c.args.from c.requires.place).1 c.in_ok-reach.reach
    (c.reaches_serve.ensures c.args.from c.args.start c.args.start c.in_ok-reach.reach c.requires.place c.requires.start
    (state_itself (state_of c.args.start)) c.in_ok-reach.ensures)
