use Rattle.std.proofs.Common.{◌∙◌, ap, subst, sym, Option}
use Rattle.std.specs.Prelude.{is_some}
use Rattle.std.proofs.Math.Logic.{∥∥₁_map}
use Rattle.pg_rooms.specs.Calls.{AreCalls}
use Rattle.pg_rooms.specs.declared.behind.Behind.{Behind}
use Rattle.pg_rooms.specs.declared.calls.Calls.{Calls}
use Rattle.pg_rooms.specs.declared.place_ends.PlaceEnds.{PlaceEnds}
use Rattle.pg_rules.specs.Legal.{document}
use Rattle.pg_space.proofs.Merely.{front_of}
use Rattle.pg_space.proofs.kept.left_of.Goals as goal

pub invariant_of-front : goal.invariant_of-front
invariant_of-front g c = record {
  right = ∥∥₁_map c.args.kept.right
      (front_of _ c.args.kept.from c.args.kept.ends.value c.in-Some.behind
      (ap (λ (it : PlaceEnds). it.behind) (sym c.deref_mut.ensures.value) ∙ sym c.take_ends-none.ensures.behind
      ∙ ap (λ (it : PlaceEnds). it.behind) (sym c.deref_mut-2.ensures.value) ∙ sym c.take_behind.ensures.behind
      ∙ c.in-Some.is));
}

pub invariant_of-result : goal.invariant_of-result
invariant_of-result g c = record {
  right = ∥∥₁_map c.args.kept.right (λ are.
      subst (λ (calls : Calls). AreCalls (document g.D.Document.galley g.D.Document.style) calls.items.items)
      (sym (c.take_behind.ensures.calls ∙ ap (λ (it : PlaceEnds). it.calls) c.deref_mut-2.ensures.value
      ∙ c.take_ends-none.ensures.calls ∙ ap (λ (it : PlaceEnds). it.calls) c.deref_mut.ensures.value)) are.calls);
  alone = ap (λ (o : Option Behind). is_some o) c.take_behind.ensures.none;
  laid = c.args.kept.laid;
}
