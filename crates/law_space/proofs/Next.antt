-- The reach of a state's place is above its block and above those of the places to which columns lead.
use Rattle.std.proofs.Common.{◌≡◌, refl, sym, ap, subst, ◌∙◌, ℕ, ◌+◌, ◌≤◌, ◌<◌, Bool, true, false, arith}
use Rattle.std.specs.Prelude.{ℤ, not}
use Rattle.std.specs.List.{AllByRecursion}
use Rattle.pg_list.specs.Shapes.{IsBlock}
use Rattle.pg_list.specs.declared.galley.Place.{Place}
use Rattle.pg_plan.specs.declared.pages.PageMove.{PageMove}
use Rattle.pg_plan.specs.declared.states.State.{State}
use Rattle.pg_style.specs.Ranges.{IsStyle}
use Rattle.pg_list.specs.Flat.{is_same_place}
use Rattle.pg_rules.specs.Follow.{Follow, context_in}
use Rattle.pg_rules.specs.IsState.{IsState}
use Rattle.pg_rules.specs.Reach.{IsReach, Reaches}
use Rattle.pg_rules.specs.Room.{Document, is_text}
use Rattle.pg_lemmas.proofs.Bools.{by_bool}
use Rattle.pg_list.proofs.Places.{same_place}
use Rattle.law_space.specs.ReachAt.{reach_at}
use Rattle.law_space.proofs.Onward.{reaches_next}
use Rattle.law_space.proofs.ReachAt.{reach_is, reaches_itself}

module _ (doc : Document) (blocks : AllByRecursion IsBlock doc.blocks) (ranges : IsStyle doc.style) where
  pub own_low : (u : State) → IsState doc u → u.place.block + 1 ≤ reach_at doc u.place
  own_low u o = let r : IsReach doc u.place (reach_at doc u.place) = reach_is doc blocks u.place o.place in
      r.greatest u.place (reaches_itself doc blocks u.place o.place)

  pub next_low : (u : State) (m : PageMove) (v : State) (c : ℤ) → IsState doc u → Follow doc u m v c →
      v.place.block + 1 ≤ reach_at doc u.place
  next_low u m v c o f = by_bool (is_text (context_in doc u m))
      (λ t. let r : IsReach doc u.place (reach_at doc u.place) = reach_is doc blocks u.place o.place in
      r.greatest v.place (subst (λ (at : Place). Reaches doc at v.place) from
      (subst (Reaches doc m.column.from) (sym to) (reaches_next doc blocks ranges u o m v c f t))))
      (λ n. let k : u.place.block + 1 ≤ reach_at doc u.place = own_low u o in
      let e : m.column.from ≡ m.column.to = same_place m.column.from m.column.to
      (idle (is_same_place m.column.from m.column.to) n) in
      let q : v.place.block ≡ u.place.block = ap (λ (at : Place). at.block) (to ∙ (sym e ∙ from)) in
      omega (arith, k, q))
    where
      from : m.column.from ≡ u.place
      from = same_place m.column.from u.place f.starts

      to : v.place ≡ m.column.to
      to = ap (λ (x : State). x.place) f.leads

      idle : (b : Bool) → not b ≡ false → b ≡ true
      idle true e = refl
      idle false e = absurd cc
