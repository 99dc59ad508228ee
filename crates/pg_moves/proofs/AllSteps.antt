-- The steps of all columns.
use Rattle.std.proofs.Common.{◌≡◌, refl, sym, ap, subst, ◌∙◌, List, [], ◌∷◌, ◌++◌, map, Bool, true, false, ℕ, ℤ}
use Rattle.std.specs.Prelude.{Contains, if◌then◌else◌, Result, Ok, Err, IfOk, IsErr, OnOk}
use Rattle.std.specs.List.{AllByRecursion, filter, flat_map}
use Rattle.pg_list.specs.GalleyValue.{GalleyValue}
use Rattle.pg_list.specs.declared.galley.Place.{Place}
use Rattle.pg_plan.specs.declared.pages.PageMove.{PageMove}
use Rattle.pg_plan.specs.declared.states.State.{State}
use Rattle.pg_style.specs.Values.{StyleValue}
use Rattle.pg_layouts.specs.Layouts.{float_layouts, text_layouts}
use Rattle.pg_layouts.specs.declared.layout.Layout.{Layout}
use Rattle.law_places.proofs.Members.{among_contains, contains_among, in_map, of_map}
use Rattle.pg_rules.specs.Floats.{called}
use Rattle.pg_rules.specs.IsState.{IsPlace, IsState}
use Rattle.pg_rules.specs.Legal.{document}
use Rattle.pg_rules.specs.Reach.{IsReach}
use Rattle.pg_rules.specs.Room.{Document}
use Rattle.law_space.specs.ReachLaws.{IsTheReach}
use Rattle.law_space.specs.ReachAt.{reach_at}
use Rattle.law_space.specs.PageSpace.{page_meaning}
use Rattle.pg_table.specs.Space.{AreMoves, AreWanted}
use Rattle.pg_table.specs.declared.step.Opened.{Opened}
use Rattle.pg_table.proofs.Spared.{all_wanted}
use Rattle.pg_table.specs.declared.step.Step.{Step}
use Rattle.law_moves.specs.Laws.{ListedAreMoves, ReachIsCeiling}
use Rattle.law_moves.specs.Listed.{beyond, listed_floats, listed_stay, listed_text, stays_on}
use Rattle.law_moves.specs.Steps.{IsCeiling, text_room}
use Rattle.pg_rooms.specs.Laid.{laid_of}
use Rattle.law_walk.specs.Candidates.{has_text}
use Rattle.law_walk.specs.Laws.{CandidatesGiveEnds}
use Rattle.pg_rooms.specs.PlaceEnds.{ArePlaceEnds, IsPageRoom, all_ends, has_behind, has_room}
use Rattle.pg_rooms.specs.declared.place_ends.PlaceEnds.{PlaceEnds}
use Rattle.pg_rooms.proofs.Kept.{all_contain, room_right}
use Rattle.pg_moves.specs.Stepping.{AreTextSteps, all_steps_in, stay_in}
use Rattle.pg_rooms.specs.declared.laid.Laid.{Laid}
use Rattle.pg_moves.specs.Thinned.{Adds, Thins}
use Rattle.pg_moves.proofs.Added.{thinned_moves, thins_all, thins_append}
use Rattle.pg_moves.proofs.Stepped.{laid_steps}

-- what layouts make of their pages is what each makes
pub laid_own : (doc : Document) (u : State) (layouts : List Layout) (it : Laid) →
    Contains (map (laid_of doc u) layouts) it → it ≡ laid_of doc u it.layout
laid_own doc u layouts it c = of_map (laid_of doc u) layouts it (contains_among (map (laid_of doc u) layouts) it c)
    (λ layout a e. sym e ∙ ap (λ (x : Laid). laid_of doc u x.layout) e)

pub text_steps_are : (doc : Document) → CandidatesGiveEnds doc → (u : State) (ceiling : List ℕ) (kept : PlaceEnds)
    (laid : List Laid) (spared : State → ℤ → Bool) (old steps : List (Step State PageMove)) →
    laid ≡ map (laid_of doc u) (text_layouts doc u ceiling) →
    AllByRecursion (λ (it : Laid). IsPageRoom doc.style it.room) laid →
    ((it : Laid) → Contains laid it → has_text doc.style it.room ≡ true → has_room kept.rooms.items it.room ≡ true) →
    ((it : Laid) → Contains laid it → has_text doc.style it.room ≡ true → has_behind kept.behind it.room ≡ true) →
    ArePlaceEnds doc u.place kept → old ≡ [] → Adds spared old (flat_map (all_steps_in doc u kept) laid) steps →
    AreTextSteps doc u ceiling spared steps
text_steps_are doc law u ceiling kept laid spared old steps e low held behind right none adds = record {
  ends = λ layout. all_ends doc.style kept (text_room doc u layout);
  are = λ layout c. room_right doc law u.place kept (text_room doc u layout)
      (all_contain (λ (it : Laid). IsPageRoom doc.style it.room) laid (laid_of doc u layout) low (among layout c)) right
      (held (laid_of doc u layout) (among layout c)) (behind (laid_of doc u layout) (among layout c));
  thins = subst (Thins spared steps)
      (ap (flat_map (all_steps_in doc u kept)) e ∙ laid_steps doc u kept (text_layouts doc u ceiling))
      (subst (λ (these : List (Step State PageMove)).
      Thins spared these (flat_map (all_steps_in doc u kept) laid))
      (sym (adds.is ∙ ap (λ (front : List (Step State PageMove)). front ++ adds.kept) none)) adds.thins);
}
  where
    among : (layout : Layout) → Contains (text_layouts doc u ceiling) layout → Contains laid (laid_of doc u layout)
    among layout c = subst (λ (xs : List Laid). Contains xs (laid_of doc u layout)) (sym e)
        (among_contains (map (laid_of doc u) (text_layouts doc u ceiling)) (laid_of doc u layout)
        (in_map (laid_of doc u) (text_layouts doc u ceiling) layout
        (contains_among (text_layouts doc u ceiling) layout c)))

-- the steps of laid columns without text are those that are listed
laid_stays : (doc : Document) (u : State) (layouts : List Layout) →
    flat_map (stay_in doc u) (map (laid_of doc u) layouts)
    ≡ map (listed_stay doc u) (filter (stays_on doc u) layouts)
laid_stays doc u [] = refl
laid_stays doc u (layout ∷ layouts) =
    ap (λ (steps : List (Step State PageMove)). stay_in doc u (laid_of doc u layout) ++ steps) (laid_stays doc u layouts)
    ∙ by (stays_on doc u layout)
  where
    by : (b : Bool) → (if b then listed_stay doc u layout ∷ [] else [])
        ++ map (listed_stay doc u) (filter (stays_on doc u) layouts)
        ≡ map (listed_stay doc u) (if b then layout ∷ filter (stays_on doc u) layouts else filter (stays_on doc u) layouts)
    by true = refl
    by false = refl

pub floats_are : (doc : Document) (u : State) (ceiling : List ℕ) (laid : List Laid) →
    laid ≡ map (laid_of doc u) (float_layouts doc u ceiling) → ceiling ≡ called doc.blocks doc.style u.place →
    flat_map (stay_in doc u) laid ≡ listed_floats doc u
floats_are doc u ceiling laid e c =
    ap (flat_map (stay_in doc u)) e ∙ (laid_stays doc u (float_layouts doc u ceiling)
    ∙ ap (λ (counts : List ℕ). map (listed_stay doc u) (filter (stays_on doc u) (float_layouts doc u counts))) c)

pub opened : (galley : GalleyValue) (style : StyleValue) (u : State) (ceiling : List ℕ) (spared : State → ℤ → Bool)
    (mid new : List (Step State PageMove)) → ListedAreMoves galley style → ReachIsCeiling galley style →
    IsState (document galley style) u →
    ceiling ≡ called galley.blocks style (beyond (document galley style) u.place) →
    AreTextSteps (document galley style) u ceiling spared mid →
    new ≡ mid ++ listed_floats (document galley style) u →
    AreWanted (page_meaning (document galley style)) u spared new
opened galley style u ceiling spared mid new listed reach own e text is =
    subst (AreWanted (page_meaning (document galley style)) u spared) (sym is)
    (thinned_moves spared (page_meaning (document galley style)) u (mid ++ floats) (texts ++ floats)
    (thins_append spared mid floats texts floats text.thins (thins_all spared floats))
    (listed u ceiling text.ends own (subst (λ (counts : List ℕ). IsCeiling (document galley style) u counts) (sym e)
    (reach u own)) text.are))
  where
    texts : List (Step State PageMove)
    texts = listed_text (document galley style) u ceiling text.ends

    floats : List (Step State PageMove)
    floats = listed_floats (document galley style) u

-- where every move is wanted, all are made
pub all_made : {E : Type 0} (doc : Document) (u : State) (r : Result (Opened State PageMove) E) (P : Type 0) → P →
    IfOk r (λ it. P → AreWanted (page_meaning doc) u (λ v c. false) it.steps) →
    IfOk r (λ it. AreMoves (page_meaning doc) u it.steps)
all_made doc u (Ok it) P p h = all_wanted (page_meaning doc) u (λ v c. false) it.steps (λ v c e. absurd cc) (h p)
all_made doc u (Err e) P p h = tt

-- a walk that tells a reach tells the one
pub on_reach : {V E : Type 0} (reach : V → ℕ) (doc : Document) (from : Place) (r : Result V E) → IsTheReach doc →
    IsPlace doc.blocks from → IfOk r (λ walk. IsReach doc from (reach walk)) →
    IfOk r (λ walk. reach walk ≡ reach_at doc from)
on_reach reach doc from (Err e) law place h = tt
on_reach reach doc from (Ok walk) law place h = (law from place).1 (reach walk) h

-- what holds at a success need not be shown at a failure
pub at_err : {T E : Type 0} (P : Type 0) (r : Result T E) → IsErr r → OnOk r P
at_err P (Ok x) h = absurd cc
at_err P (Err e) h = tt
