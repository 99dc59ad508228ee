use Rattle.std.proofs.Common.{◌≡◌, ◌∙◌, sym, subst, ap, true}
use Rattle.pg_hops.specs.Index.{AreHops}
use Rattle.pg_hops.specs.declared.state.State.{State}
use Rattle.pg_list.specs.GalleyValue.{GalleyValue}
use Rattle.pg_rooms.proofs.Kept.{front_begun}
use Rattle.pg_rooms.specs.PlaceEnds.{AreFrontEnds}
use Rattle.pg_rules.specs.Legal.{document}
use Rattle.pg_sources.specs.Document.{doc_of}
use Rattle.pg_style.specs.Values.{StyleValue}
use Rattle.pg_walk.proofs.Behind.{state_itself}
use Rattle.pg_walk.specs.Fronts.{is_same_state}
use Rattle.pg_walk.specs.Meaning.{state_of}
use Rattle.pg_walk.specs.declared.front.FrontWalk.{FrontWalk}
use Rattle.pg_space.proofs.Telling.{of_equal}
use Rattle.pg_space.proofs.kept.KeptPages.walk_behind.Goals as goal

pub walk_behind-requires-clause-hops : goal.walk_behind-requires-clause-hops
walk_behind-requires-clause-hops g c = of_equal (λ (galley : GalleyValue) (style : StyleValue).
    AreHops galley.blocks style.maxdepth c.args.self.now.index.now) _ _ _ _
    (sym c.args.self.now.galley) (sym c.args.self.now.style) c.args.self.now.hops

pub invariant_of-result : goal.invariant_of-result
invariant_of-result g c = record {
  right = ∣ of_equal (λ (galley : GalleyValue) (style : StyleValue). AreFrontEnds (document galley style) c.new.result)
      _ _ _ _ c.args.self.now.galley c.args.self.now.style
      (front_begun (doc_of c.args.self.now.pages.sources) c.new.result c.in_ok-walk.walk c.new.ensures.walk
      c.new.ensures.rooms c.in_ok-walk.ensures.right) ∣₁;
}

pub returns : goal.returns
returns g c = subst (λ (it : State). is_same_state (state_of it) (state_of c.args.base) ≡ true)
    (sym (ap (λ (walk : FrontWalk). walk.base) c.new.ensures.walk ∙ c.in_ok-walk.ensures.base))
    (state_itself (state_of c.args.base))
