use Rattle.std.proofs.Common.{◌∙◌, ap, subst, sym, Option}
use Rattle.std.specs.Prelude.{is_some}
use Rattle.pg_rooms.proofs.Called.{no_calls}
use Rattle.pg_rooms.specs.Calls.{AreCalls}
use Rattle.pg_rooms.specs.KeptLaid.{AreLayouts}
use Rattle.pg_rooms.specs.declared.behind.Behind.{Behind}
use Rattle.pg_rooms.specs.declared.calls.Calls.{Calls}
use Rattle.pg_rooms.specs.declared.place_ends.PlaceEnds.{PlaceEnds}
use Rattle.pg_rules.specs.Legal.{document}
use Rattle.pg_space.proofs.kept.nothing_shared.Goals as goal

pub invariant_of-result : goal.invariant_of-result
invariant_of-result g c = record {
  right = ∣ subst (λ (calls : Calls). AreCalls (document g.D.Document.galley g.D.Document.style) calls.items.items)
      (sym (ap (λ (it : PlaceEnds). it.calls) c.in_ok-ends.ensures.ok ∙ c.new-none.ensures.calls))
      (no_calls _ _ c.none-2.ensures) ∣₁;
  alone = ap (λ (o : Option Behind). is_some o)
      (ap (λ (it : PlaceEnds). it.behind) c.in_ok-ends.ensures.ok ∙ c.new-none.ensures.behind);
  laid = subst (AreLayouts (document g.D.Document.galley g.D.Document.style)) (sym c.in_ok-new.ensures.ok)
      (c.none-3.ensures (document g.D.Document.galley g.D.Document.style));
}
