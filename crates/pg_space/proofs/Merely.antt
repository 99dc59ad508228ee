-- What is kept of a place is kept for an equal document.
use Rattle.std.proofs.Common.{◌≡◌, refl, ◌∙◌, sym, ap, subst, append-nil, List, [], ◌++◌, true, false, Option, Some, None, IfSome, ℕ, ℤ}
use Rattle.std.specs.Prelude.{is_some}
use Rattle.std.proofs.Props.{props}
use Rattle.std.proofs.Math.Logic.{∥∥₁_elim, ∥∥₁_map, ∥∥₁_map₂}
use Rattle.pg_list.specs.GalleyValue.{GalleyValue}
use Rattle.pg_list.specs.declared.galley.Place.{Place}
use Rattle.pg_style.specs.Values.{StyleValue}
use Rattle.pg_hops.specs.declared.state.State.{State}
use Rattle.pg_rules.specs.Legal.{document}
use Rattle.pg_rooms.specs.Calls.{AreCalls}
use Rattle.pg_rooms.specs.PlaceEnds.{AreFrontEnds, AreFrontEndsOf, ArePlaceEnds, behind_candidates}
use Rattle.pg_rules.specs.IsState.{IsPlace}
use Rattle.pg_rules.specs.Room.{Document}
use Rattle.law_space.specs.ReachAt.{reach_at}
use Rattle.law_space.specs.ReachLaws.{IsTheReach}
use Rattle.law_walk.specs.Candidates.{AreCandidates, Candidate}
use Rattle.law_walk.specs.Reached.{quiet, tallest}
use Rattle.law_walk.specs.Space.{WalkState}
use Rattle.pg_walk.specs.Blocks.{IsBegun}
use Rattle.pg_walk.specs.Straight.{Tells, TellsAll, straight_candidates}
use Rattle.pg_walk.specs.Fronts.{AreApart, ComesTo, FrontsServe, IsReachBehind, ReachesServe, is_same_state}
use Rattle.pg_walk.specs.Meaning.{state_of}
use Rattle.pg_walk.specs.Moved.{IsMoved}
use Rattle.pg_walk.specs.declared.front.Front.{Front}
use Rattle.pg_walk.specs.declared.place.FirstWalk.{FirstWalk}
use Rattle.pg_walk.proofs.Behind.{same_state}
use Rattle.pg_rooms.specs.declared.calls.Calls.{Calls}
use Rattle.pg_rooms.specs.declared.calls.Call.{Call}
use Rattle.pg_rooms.specs.declared.behind.Behind.{Behind}
use Rattle.pg_rooms.specs.declared.behind.FrontEnds.{FrontEnds}
use Rattle.pg_rooms.specs.declared.place_ends.PlaceEnds.{PlaceEnds}
use Rattle.pg_space.proofs.Telling.{of_equal}

-- what is kept of a place of a document is kept of the same place of an equal one
pub carried : (g h : GalleyValue) (s t : StyleValue) (from at : Place) (it : PlaceEnds) → g ≡ h → s ≡ t →
    from ≡ at → ArePlaceEnds (document h t) from it → ArePlaceEnds (document g s) at it
carried g h s t from at it p q r a =
    subst (λ (x : GalleyValue). ArePlaceEnds (document x s) at it) (sym p)
    (subst (λ (x : StyleValue). ArePlaceEnds (document h x) at it) (sym q)
    (subst (λ (x : Place). ArePlaceEnds (document h t) x it) r a))

-- what stays right stays so for an equal document
pub carried_on : (g h : GalleyValue) (s t : StyleValue) (from at : Place) (old new : PlaceEnds) → g ≡ h → s ≡ t →
    from ≡ at → (ArePlaceEnds (document g s) at old → ArePlaceEnds (document g s) at new) →
    ArePlaceEnds (document h t) from old → ArePlaceEnds (document h t) from new
carried_on g h s t from at old new p q r f a =
    carried h g t s at from new (sym p) (sym q) (sym r) (f (carried g h s t from at old p q r a))

-- what is kept of a place by the calls of a document is kept so for an equal one
pub with_calls : (g h : GalleyValue) (s t : StyleValue) (from : Place) (it : PlaceEnds) (calls : List Call) → g ≡ h →
    s ≡ t → (AreCalls (document g s) calls → ArePlaceEnds (document g s) from it) → AreCalls (document h t) calls →
    ArePlaceEnds (document h t) from it
with_calls g h s t from it calls p q = of_equal (λ (a : GalleyValue) (b : StyleValue).
    AreCalls (document a b) calls → ArePlaceEnds (document a b) from it) g h s t p q

-- what serves of a place for others: what is kept behind its front, if something is
pub front_of : (doc : Document) (from : Place) (it : PlaceEnds) (behind : Behind) → it.behind ≡ Some behind →
    ArePlaceEnds doc from it → AreFrontEnds doc behind.ends
front_of doc from it behind e right = record {
  candidates = right.later;
  are = subst (λ (o : Option Behind). IfSome o (λ (b : Behind). AreFrontEndsOf doc right.later b.ends)) e right.behind;
}

no_behind : (o : Option Behind) → is_some o ≡ false → o ≡ None
no_behind None e = refl
no_behind (Some x) e = absurd cc

one_reach : (m n : ℕ) → IsProp (m ≡ n)
one_reach m n = hlevel props

module _ (g h : GalleyValue) (s t : StyleValue) (p : g ≡ h) (q : s ≡ t) (from : Place) (at : IsPlace g.blocks from) where
  -- a first stretch with what is merely known to be kept behind the front there, from a state that is moved to it
  pub before_front : (it : PlaceEnds) (first : FirstWalk) (front : Front) (base : State) (height : ℤ)
      (bound : Option ℤ) (ends : FrontEnds) (behind : Behind) (calls : Calls) → FrontsServe (document g s) →
      ComesTo (document g s) from first front → IsMoved height bound (state_of base) (state_of front.start) →
      is_same_state (state_of ends.walk.base) (state_of base) ≡ true → ∥ AreFrontEnds (document h t) ends ∥₁ →
      behind.ends ≡ ends → behind.by ≡ height → behind.bound ≡ bound → ∥ AreCalls (document h t) calls.items.items ∥₁ →
      ((at : Place) (cs ds : List Candidate) → Tells (document g s) at cs first →
      AreCandidates (document g s) at (tallest s) (cs ++ behind_candidates (Some behind) ds) →
      AreApart cs (behind_candidates (Some behind) ds) → AreCalls (document g s) calls.items.items →
      AreFrontEndsOf (document g s) ds behind.ends → ArePlaceEnds (document g s) at it) →
      ∥ ArePlaceEnds (document h t) from it ∥₁
  before_front it first front base height bound ends behind calls law comes moved alike right e b o called made =
      ∥∥₁_map₂ right called (λ are those.
      let own = here are in
      let serves = law from front behind.by behind.bound own.candidates behind.ends.walk at comes.ahead there
      own.are.walk in
      of_equal (λ (a : GalleyValue) (b : StyleValue). ArePlaceEnds (document a b) from it) g h s t p q
      (made from (straight_candidates (document g s) from) own.candidates comes.tells serves.candidates serves.apart
      (of_equal (λ (a : GalleyValue) (b : StyleValue). AreCalls (document a b) calls.items.items) h g t s
      (sym p) (sym q) those) own.are))
    where
      here : AreFrontEnds (document h t) ends → AreFrontEnds (document g s) behind.ends
      here are = subst (AreFrontEnds (document g s)) (sym e)
          (of_equal (λ (a : GalleyValue) (b : StyleValue). AreFrontEnds (document a b) ends) h g t s (sym p) (sym q) are)

      same : state_of behind.ends.walk.base ≡ state_of base
      same = ap (λ (x : FrontEnds). state_of x.walk.base) e ∙ same_state (state_of ends.walk.base) (state_of base) alike

      there : IsMoved behind.by behind.bound (state_of behind.ends.walk.base) (state_of front.start)
      there = subst (λ (z : ℤ). IsMoved z behind.bound (state_of behind.ends.walk.base) (state_of front.start)) (sym b)
          (subst (λ (x : Option ℤ). IsMoved height x (state_of behind.ends.walk.base) (state_of front.start)) (sym o)
          (subst (λ (u : WalkState). IsMoved height bound u (state_of front.start)) (sym same) moved))

  -- a first stretch behind which there is no choice
  pub alone : (it : PlaceEnds) (first : FirstWalk) (calls : Calls) → TellsAll (document g s) from first →
      ∥ AreCalls (document h t) calls.items.items ∥₁ →
      ((at : Place) (cs ds : List Candidate) → Tells (document g s) at cs first →
      AreCandidates (document g s) at (tallest s) (cs ++ []) → AreApart cs [] →
      AreCalls (document g s) calls.items.items → Unit {0} → ArePlaceEnds (document g s) at it) →
      ∥ ArePlaceEnds (document h t) from it ∥₁
  alone it first calls tells called made = ∥∥₁_map called (λ those.
      of_equal (λ (a : GalleyValue) (b : StyleValue). ArePlaceEnds (document a b) from it) g h s t p q
      (made from tells.candidates [] tells.tells
      (subst (AreCandidates (document g s) from (tallest s)) (sym (append-nil tells.candidates)) tells.found)
      (λ c d a e. absurd e)
      (of_equal (λ (a : GalleyValue) (b : StyleValue). AreCalls (document a b) calls.items.items) h g t s
      (sym p) (sym q) those) tt))

  -- what was kept of a place and has nothing behind a front goes on to a place behind which there is no choice
  pub alone_on : (old new : PlaceEnds) (first : FirstWalk) (was : PlaceEnds) → old ≡ was → is_some was.behind ≡ false →
      TellsAll (document g s) from first → ∥ AreCalls (document h t) was.calls.items.items ∥₁ →
      ((at : Place) (cs ds : List Candidate) → Tells (document g s) at cs first →
      AreCandidates (document g s) at (tallest s) (cs ++ behind_candidates old.behind ds) →
      AreApart cs (behind_candidates old.behind ds) → AreCalls (document g s) old.calls.items.items →
      IfSome old.behind (λ it. AreFrontEndsOf (document g s) ds it.ends) → ArePlaceEnds (document g s) at new) →
      ∥ ArePlaceEnds (document h t) from new ∥₁
  alone_on old new first was same none tells called made = alone new first old.calls tells
      (subst (λ (it : PlaceEnds). ∥ AreCalls (document h t) it.calls.items.items ∥₁) (sym same) called)
      (subst (λ (o : Option Behind). (at : Place) (cs ds : List Candidate) → Tells (document g s) at cs first →
      AreCandidates (document g s) at (tallest s) (cs ++ behind_candidates o ds) → AreApart cs (behind_candidates o ds) →
      AreCalls (document g s) old.calls.items.items → IfSome o (λ it. AreFrontEndsOf (document g s) ds it.ends) →
      ArePlaceEnds (document g s) at new)
      (ap (λ (it : PlaceEnds). it.behind) same ∙ no_behind was.behind none) made)

  -- and to a place whose columns come to a front, behind which this is kept
  pub before_on : (old new : PlaceEnds) (first : FirstWalk) (front : Front) (base : State) (height : ℤ)
      (bound : Option ℤ) (ends : FrontEnds) (behind : Behind) (was : PlaceEnds) → old.behind ≡ Some behind →
      old.calls ≡ was.calls → FrontsServe (document g s) → ComesTo (document g s) from first front →
      IsMoved height bound (state_of base) (state_of front.start) →
      is_same_state (state_of ends.walk.base) (state_of base) ≡ true → ∥ AreFrontEnds (document h t) ends ∥₁ →
      behind.ends ≡ ends → behind.by ≡ height → behind.bound ≡ bound → ∥ AreCalls (document h t) was.calls.items.items ∥₁ →
      ((at : Place) (cs ds : List Candidate) → Tells (document g s) at cs first →
      AreCandidates (document g s) at (tallest s) (cs ++ behind_candidates old.behind ds) →
      AreApart cs (behind_candidates old.behind ds) → AreCalls (document g s) old.calls.items.items →
      IfSome old.behind (λ it. AreFrontEndsOf (document g s) ds it.ends) → ArePlaceEnds (document g s) at new) →
      ∥ ArePlaceEnds (document h t) from new ∥₁
  before_on old new first front base height bound ends behind was has same law comes moved alike right e b o called made =
      before_front new first front base height bound ends behind old.calls law comes moved alike right e b o
      (subst (λ (calls : Calls). ∥ AreCalls (document h t) calls.items.items ∥₁) (sym same) called)
      (subst (λ (o : Option Behind). (at : Place) (cs ds : List Candidate) → Tells (document g s) at cs first →
      AreCandidates (document g s) at (tallest s) (cs ++ behind_candidates o ds) → AreApart cs (behind_candidates o ds) →
      AreCalls (document g s) old.calls.items.items → IfSome o (λ it. AreFrontEndsOf (document g s) ds it.ends) →
      ArePlaceEnds (document g s) at new) has made)

  -- how far columns go that come to a front in a state of which it is merely known
  pub kept_reach : (start kept : State) (reach : ℕ) → ReachesServe (document g s) → IsTheReach (document g s) →
      IsBegun (quiet (document g s)) (tallest s) from start → is_same_state (state_of kept) (state_of start) ≡ true →
      ∥ IsReachBehind (document h t) kept reach ∥₁ → reach ≡ reach_at (document g s) from
  kept_reach start kept reach law one begun alike right =
      ∥∥₁_elim right (one_reach reach (reach_at (document g s) from)) (λ is.
      (one from at).1 reach (law from start kept reach at begun alike
      (of_equal (λ (a : GalleyValue) (b : StyleValue). IsReachBehind (document a b) kept reach) h g t s (sym p) (sym q)
      is)))
