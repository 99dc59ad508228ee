-- Where two galleys agree, so do the runs of their spaces of pages, their reaches and their beginnings.
use Rattle.std.proofs.Common.{◌≡◌, refl, sym, subst, ◌∙◌, ℕ, zero, suc, ◌+◌, ◌≤◌, ◌<◌, Bool, List, [], ◌∷◌, length, arith}
use Rattle.std.specs.Prelude.{ℤ}
use Rattle.pg_list.specs.GalleyValue.{GalleyValue}
use Rattle.pg_list.specs.declared.galley.Place.{Place}
use Rattle.pg_list.specs.declared.blocks.Block.{Block}
use Rattle.pg_plan.specs.Order.{columns}
use Rattle.pg_plan.specs.declared.pages.PageMove.{PageMove}
use Rattle.pg_plan.specs.declared.pages.Pagination.{Pagination}
use Rattle.pg_plan.specs.declared.states.State.{State}
use Rattle.pg_style.specs.Values.{StyleValue}
use Rattle.pg_rules.specs.Cost.{cost}
use Rattle.pg_rules.specs.Follow.{Follow}
use Rattle.pg_rules.specs.IsState.{IsPlace}
use Rattle.pg_rules.specs.Legal.{document}
use Rattle.pg_rules.specs.NoWorse.{is_same_key}
use Rattle.pg_rules.specs.Ranges.{AreInRange}
use Rattle.pg_rules.specs.Reach.{IsReach}
use Rattle.pg_rules.specs.States.{Prefix, state_of}
use Rattle.pg_table.specs.Below.{SameBelow}
use Rattle.pg_table.specs.Space.{Lawful, Meaning, Run}
use Rattle.pg_table.proofs.Runs.{own}
use Rattle.law_space.specs.ReachAt.{reach_at}
use Rattle.law_space.proofs.ReachAt.{reach_is}
use Rattle.law_space.specs.SpaceLaws.{IsBeginningOf, IsRunOfColumns}
use Rattle.law_space.specs.PageSpace.{FollowBest, page_meaning, wide_meaning}
use Rattle.law_space.proofs.Bounds.{pages_lawful}
use Rattle.law_space.proofs.SpaceContracts.{beginnings_are_runs, best_lawful, runs_are_beginnings}
use Rattle.law_edits.specs.Agreeing.{BeginningsAgree, PagesAgree}
use Rattle.law_edits.proofs.Cuts.{AreCut, agree_back, are_cut}
use Rattle.law_edits.proofs.Follows.{best_same, follow_same}
use Rattle.law_edits.proofs.Reaches.{document_of, reach_same}

-- ---- runs of any space

-- where moves between states below a block are moves of another space, runs to such states are runs of it
module _ {S M K : Type 0} (eq : K → K → Bool) (sp sq : Meaning S M K) (law : Lawful eq sp) (n : ℕ)
    (start : sp.start ≡ sq.start) (carry : (u : S) (m : M) (v : S) (c : ℤ) → sp.block u < n → sp.block v < n →
    sp.Follow u m v c → sq.Follow u m v c) where
  runs_over : (ms : List M) (v : S) (c : ℤ) → sp.block v < n → Run sp ms v c → Run sq ms v c
  runs_over [] v c h (e, z) = (e ∙ start, z)
  runs_over (m ∷ ms) v c h (u, (j, k, (run, step, sum))) =
      let low : sp.block u ≤ sp.block v = law.onward u m v k (own eq sp law ms u j run) step in
      let i : sp.block u < n = omega (arith, low, h) in
      (u, (j, k, (runs_over ms u j i run, carry u m v k i h step, sum)))

-- ---- galleys that are cut at the last block that they share

module _ (style : StyleValue) {n : ℕ} {blocks others : List Block} (cut : AreCut n blocks others) where
  follow_over : (u : State) (m : PageMove) (v : State) (c : ℤ) → u.place.block < n → v.place.block < n →
      Follow (document_of style blocks) u m v c → Follow (document_of style others) u m v c
  follow_over u m v c i j f =
      subst (λ (bs : List Block). Follow (document_of style bs) u m v c) (sym cut.shared.other_is)
      (follow_same style cut.first_on cut.second_on u m v c (omega (arith, i, cut.shared.long))
      (omega (arith, j, cut.shared.long))
      (subst (λ (bs : List Block). Follow (document_of style bs) u m v c) cut.shared.is f))

  best_over : (u : State) (m : PageMove) (v : State) (c : ℤ) → u.place.block < n → v.place.block < n →
      FollowBest (document_of style blocks) u m v c → FollowBest (document_of style others) u m v c
  best_over u m v c i j f =
      let g = subst (λ (bs : List Block). FollowBest (document_of style bs) u m v c) cut.shared.is f in
      subst (λ (bs : List Block). FollowBest (document_of style bs) u m v c) (sym cut.shared.other_is)
      (best_same style cut.first_on cut.second_on u m v c (omega (arith, i, cut.shared.long))
      (omega (arith, j, cut.shared.long)) g.follow g.least)

  reach_over : (from : Place) (j k : ℕ) → from.block < n → IsReach (document_of style blocks) from j →
      IsReach (document_of style others) from k → SameBelow (suc n) j k
  reach_over from j k i p q =
      let e : length cut.shared.front + 1 ≡ suc n = omega (arith, cut.shared.long) in
      subst (λ (t : ℕ). SameBelow t j k) e
      (reach_same style cut.first_on cut.second_on from j k (omega (arith, i, cut.shared.long))
      (subst (λ (bs : List Block). IsReach (document_of style bs) from j) cut.shared.is p)
      (subst (λ (bs : List Block). IsReach (document_of style bs) from k) cut.shared.other_is q))

-- ---- the laws

-- a run ends at a place of the galley
module _ (k : GalleyValue) (style : StyleValue) (range : AreInRange k style) where
  wide_place : (ms : List PageMove) (v : State) (c : ℤ) → Run (wide_meaning (document k style)) ms v c →
      IsPlace k.blocks v.place
  wide_place ms v c run =
      (own is_same_key (wide_meaning (document k style)) (pages_lawful k style range) ms v c run).place

  best_place : (ms : List PageMove) (v : State) (c : ℤ) → Run (page_meaning (document k style)) ms v c →
      IsPlace k.blocks v.place
  best_place ms v c run =
      (own is_same_key (page_meaning (document k style)) (best_lawful k style range) ms v c run).place

module _ (g o : GalleyValue) (style : StyleValue) (range : AreInRange g style) (other : AreInRange o style) where
  wide_runs : (n : ℕ) → AreCut n g.blocks o.blocks → (ms : List PageMove) (v : State) (c : ℤ) → v.place.block < n →
      Run (wide_meaning (document g style)) ms v c → Run (wide_meaning (document o style)) ms v c
  wide_runs n cut = runs_over is_same_key (wide_meaning (document g style)) (wide_meaning (document o style))
      (pages_lawful g style range) n refl (follow_over style cut)

  best_runs : (n : ℕ) → AreCut n g.blocks o.blocks → (ms : List PageMove) (v : State) (c : ℤ) → v.place.block < n →
      Run (page_meaning (document g style)) ms v c → Run (page_meaning (document o style)) ms v c
  best_runs n cut = runs_over is_same_key (page_meaning (document g style)) (page_meaning (document o style))
      (best_lawful g style range) n refl (best_over style cut)

  place_reach : (n : ℕ) → AreCut n g.blocks o.blocks → (from : Place) → from.block < n → IsPlace g.blocks from →
      IsPlace o.blocks from → SameBelow (suc n) (reach_at (document g style) from) (reach_at (document o style) from)
  place_reach n cut from i here there = reach_over style cut from (reach_at (document g style) from)
      (reach_at (document o style) from) i (reach_is (document g style) range.blocks from here)
      (reach_is (document o style) other.blocks from there)

  -- a beginning that ends below the block is one of the other galley
  pub beginnings_agree : BeginningsAgree g o style
  beginnings_agree zero plan h prefix l = absurd (omega (arith, l))
  beginnings_agree (suc n) plan h prefix l =
      let i : (state_of g style plan).place.block < n = omega (arith, l) in
      let cut : AreCut n g.blocks o.blocks = are_cut n g.blocks o.blocks range.blocks other.blocks h in
      let r : IsRunOfColumns g style plan = beginnings_are_runs g style range plan prefix in
      let run : Run (wide_meaning (document o style)) (columns plan) (state_of g style plan) (cost g style plan) =
      wide_runs n cut (columns plan) (state_of g style plan) (cost g style plan) i r.run in
      let s : IsBeginningOf o style (columns plan) (state_of g style plan) (cost g style plan) =
      runs_are_beginnings o style other (columns plan) (state_of g style plan) (cost g style plan) run in
      record {
        prefix = subst (Prefix o style) r.plan_is s.prefix;
        state = subst (λ (p : Pagination). state_of o style p ≡ state_of g style plan) r.plan_is s.state;
        cost = subst (λ (p : Pagination). cost o style p ≡ cost g style plan) r.plan_is s.cost;
        reach = place_reach n cut (state_of g style plan).place i (wide_place g style range _ _ _ r.run)
            (wide_place o style other _ _ _ run);
      }

pub pages_agree : (g o : GalleyValue) (style : StyleValue) → AreInRange g style → AreInRange o style →
    PagesAgree g o style
pages_agree g o style range other zero h = record {
  block = λ u. refl;
  order = λ x y. refl;
  key = λ u x y. refl;
  rank = λ u x y. refl;
  no_worse = λ u v x y i j. refl;
  runs = λ r l run. absurd (omega (arith, l));
  runs_back = λ r l run. absurd (omega (arith, l));
  reaches = λ r l run. absurd (omega (arith, l));
}
pages_agree g o style range other (suc n) h = record {
  block = λ u. refl;
  order = λ x y. refl;
  key = λ u x y. refl;
  rank = λ u x y. refl;
  no_worse = λ u v x y i j. refl;
  runs = λ r l run. best_runs g o style range other n cut r.moves r.state r.cost (omega (arith, l)) run;
  runs_back = λ r l run. best_runs o g style other range n back r.moves r.state r.cost (omega (arith, l)) run;
  reaches = λ r l run. let i : r.state.place.block < n = omega (arith, l) in
      place_reach g o style range other n cut r.state.place i (best_place g style range r.moves r.state r.cost run)
      (best_place o style other r.moves r.state r.cost
      (best_runs g o style range other n cut r.moves r.state r.cost i run));
}
  where
    cut : AreCut n g.blocks o.blocks
    cut = are_cut n g.blocks o.blocks range.blocks other.blocks h

    back : AreCut n o.blocks g.blocks
    back = are_cut n o.blocks g.blocks other.blocks range.blocks (agree_back (suc n) g.blocks o.blocks h)
