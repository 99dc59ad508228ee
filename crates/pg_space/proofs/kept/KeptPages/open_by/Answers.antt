use Rattle.std.proofs.Common.{◌≡◌, ◌∙◌, ap, subst, sym}
use Rattle.std.proofs.Math.Logic.{∥∥₁_map}
use Rattle.std.proofs.lemmas.Result.{IfOk-from_err}
use Rattle.law_space.specs.ReachAt.{reach_at}
use Rattle.pg_list.specs.GalleyValue.{GalleyValue}
use Rattle.pg_list.specs.declared.galley.Place.{Place}
use Rattle.pg_rooms.specs.KeptLaid.{AreLayouts}
use Rattle.pg_rooms.specs.PlaceEnds.{ArePlaceEnds}
use Rattle.pg_rooms.specs.declared.place_ends.PlaceEnds.{PlaceEnds}
use Rattle.pg_rules.specs.Legal.{document}
use Rattle.pg_sources.specs.Document.{counts_of, doc_of}
use Rattle.pg_style.specs.Values.{StyleValue}
use Rattle.pg_walk.specs.declared.place.PlaceWalk.{PlaceWalk}
use Rattle.pg_space.proofs.Had.{wanted_had}
use Rattle.pg_space.proofs.Merely.{carried, carried_on}
use Rattle.pg_space.proofs.Telling.{of_equal}
use Rattle.pg_space.proofs.kept.KeptPages.open_by.Goals as goal

pub invariant_of-result : goal.invariant_of-result
invariant_of-result g c = record {
  right = ∥∥₁_map (subst (λ (it : PlaceEnds).
      ∥ ArePlaceEnds (document g.D.Document.galley g.D.Document.style) c.args.kept.from it ∥₁)
      (sym c.deref_mut-2.ensures.value) c.args.kept.right)
      (carried_on _ _ _ _ _ _ _ _ c.args.self.now.galley c.args.self.now.style c.requires.from
      c.in_ok-opened.ensures.kept);
  laid = of_equal (λ (galley : GalleyValue) (style : StyleValue).
      AreLayouts (document galley style) c.open_by.new.layouts) _ _ _ _
      c.args.self.now.galley c.args.self.now.style c.in_ok-opened.ensures.layouts;
  reach = ap (λ (walk : PlaceWalk). walk.reach) c.in_ok-opened.ensures.walk
      ∙ (ap (λ (it : PlaceEnds). it.walk.reach) c.deref_mut-2.ensures.value ∙ c.args.kept.reach);
  counts = c.in_ok-opened.ensures.counts
      ∙ (ap (λ (it : PlaceEnds). it.counts) c.deref_mut-2.ensures.value ∙ c.args.kept.counts);
}

pub open_by-requires-clause-own : goal.open_by-requires-clause-own
open_by-requires-clause-own g c = c.requires.own

pub open_by-requires-clause-reach : goal.open_by-requires-clause-reach
open_by-requires-clause-reach g c = ap (λ (it : PlaceEnds). it.walk.reach) c.deref_mut-2.ensures.value
    ∙ of_equal (λ (galley : GalleyValue) (style : StyleValue).
    c.args.kept.ends.value.walk.reach ≡ reach_at (document galley style) c.args.state.now.place) _ _ _ _
    (sym c.args.self.now.galley) (sym c.args.self.now.style)
    (subst (λ (at : Place). c.args.kept.ends.value.walk.reach
    ≡ reach_at (document g.D.Document.galley g.D.Document.style) at) c.requires.from c.args.kept.reach)

pub open_by-requires-clause-counts : goal.open_by-requires-clause-counts
open_by-requires-clause-counts g c = ap (λ (it : PlaceEnds). it.counts) c.deref_mut-2.ensures.value
    ∙ of_equal (λ (galley : GalleyValue) (style : StyleValue).
    c.args.kept.ends.value.counts ≡ counts_of (document galley style) c.args.state.now.place) _ _ _ _
    (sym c.args.self.now.galley) (sym c.args.self.now.style)
    (subst (λ (at : Place). c.args.kept.ends.value.counts
    ≡ counts_of (document g.D.Document.galley g.D.Document.style) at) c.requires.from c.args.kept.counts)

pub open_by-requires-clause-layouts : goal.open_by-requires-clause-layouts
open_by-requires-clause-layouts g c = of_equal (λ (galley : GalleyValue) (style : StyleValue).
    AreLayouts (document galley style) c.deref_mut.result.now) _ _ _ _
    (sym c.args.self.now.galley) (sym c.args.self.now.style)
    (subst (AreLayouts (document g.D.Document.galley g.D.Document.style)) (sym c.deref_mut.ensures.value) c.args.kept.laid)

pub open_by-requires-clause-emptied : goal.open_by-requires-clause-emptied
open_by-requires-clause-emptied g c = c.requires.emptied

pub returns-in_err-opened-clause-moves : goal.returns-in_err-opened-clause-moves
returns-in_err-opened-clause-moves g c = IfOk-from_err c.from_residual.result _ c.from_residual.ensures.0

pub returns-in_err-opened-clause-reach : goal.returns-in_err-opened-clause-reach
returns-in_err-opened-clause-reach g c = IfOk-from_err c.from_residual.result _ c.from_residual.ensures.0

pub returns-clause-moves : goal.returns-clause-moves
returns-clause-moves g c = wanted_had (doc_of c.args.self.now.pages.sources) c.args.state.now
    (g.W.Wants.spares c.args.wants.now) c.in_ok-opened.opened.steps (∥∥₁_map (subst (λ (it : PlaceEnds).
    ∥ ArePlaceEnds (document g.D.Document.galley g.D.Document.style) c.args.kept.from it ∥₁)
    (sym c.deref_mut-2.ensures.value) c.args.kept.right) (λ right. c.in_ok-opened.ensures.moves
    (carried _ _ _ _ _ _ _ c.args.self.now.galley c.args.self.now.style c.requires.from right)))

pub returns-clause-reach : goal.returns-clause-reach
returns-clause-reach g c = c.in_ok-opened.ensures.reach
