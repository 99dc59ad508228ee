use Rattle.std.proofs.Common.{◌≡◌, ◌∙◌, ap}
use Rattle.pg_list.specs.GalleyValue.{GalleyValue}
use Rattle.law_space.specs.ReachAt.{reach_at}
use Rattle.law_walk.specs.Reached.{tallest}
use Rattle.pg_rooms.specs.declared.place_ends.PlaceEnds.{PlaceEnds}
use Rattle.pg_rules.specs.Legal.{document}
use Rattle.pg_sources.specs.Document.{counts_of, doc_of}
use Rattle.pg_style.specs.Values.{StyleValue}
use Rattle.pg_space.proofs.Merely.{before_on}
use Rattle.pg_space.proofs.Telling.{of_equal}
use Rattle.pg_space.proofs.kept.KeptPages.keep_before.Goals as goal

pub reach_behind-requires-clause-start : goal.reach_behind-requires-clause-start
reach_behind-requires-clause-start g c = c.requires.comes.ahead.quiet

pub behind-requires : goal.behind-requires
behind-requires g c = c.lowered-lowered.ensures.own (doc_of c.args.self.now.pages.sources)
    (tallest c.args.self.now.pages.sources.style.now) c.requires.comes.ahead.start.own

pub behind_by-behind-requires-clause-up : goal.behind_by-behind-requires-clause-up
behind_by-behind-requires-clause-up g c = c.lowered-lowered.ensures.moved.up

pub invariant_of-result : goal.invariant_of-result
invariant_of-result g c = record {
  right = before_on _ _ _ _ c.args.self.now.galley c.args.self.now.style c.args.from c.requires.place
      c.deref_mut-5.result.now c.go_on.new.self c.args.first c.args.front c.lowered-lowered.result.base
      c.lowered-lowered.result.by c.lowered-lowered.result.bound c.in_ok-kept.kept.ends c.behind_by-behind.result
      c.args.shared.ends.value
      (ap (λ (it : PlaceEnds). it.behind) c.deref_mut-5.ensures.value ∙ c.put_behind.ensures.behind)
      (ap (λ (it : PlaceEnds). it.calls) c.deref_mut-5.ensures.value ∙ c.put_behind.ensures.calls
      ∙ ap (λ (it : PlaceEnds). it.calls) c.deref_mut-4.ensures.value)
      c.fronts_serve.ensures c.requires.comes c.lowered-lowered.ensures.moved c.in_ok-kept.ensures
      c.in_ok-kept.kept.right c.behind_by-behind.ensures.ends c.behind_by-behind.ensures.by
      c.behind_by-behind.ensures.bound c.args.shared.right c.in_ok-go_on.ensures.right;
  laid = c.args.shared.laid;
  reach = c.in_ok-go_on.ensures.reach ∙ of_equal
      (λ (galley : GalleyValue) (style : StyleValue).
      c.in_ok-reach.reach ≡ reach_at (document galley style) c.args.from) _ _ _ _
      c.args.self.now.galley c.args.self.now.style c.in_ok-reach.ensures;
  counts = c.in_ok-go_on.ensures.counts ∙ of_equal
      (λ (galley : GalleyValue) (style : StyleValue).
      c.in_ok-counts.counts ≡ counts_of (document galley style) c.args.from) _ _ _ _
      c.args.self.now.galley c.args.self.now.style c.in_ok-counts.ensures;
}
