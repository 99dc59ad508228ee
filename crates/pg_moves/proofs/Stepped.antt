-- The steps to the ends of a layout.
use Rattle.std.proofs.Common.{◌≡◌, refl, sym, ap, subst, ◌∙◌, ℕ, ◌+◌, ◌<◌, zero, suc, arith, List, [], ◌∷◌, ◌++◌, append_assoc, length, take, drop, get_or, true, false, Bool, map, Option, Some, None, IfSome, ℤ}
use Rattle.std.specs.Prelude.{◌&&◌, not, if◌then◌else◌}
use Rattle.std.specs.List.{AllByRecursion, filter, flat_map}
use Rattle.std.specs.Option.{option_map_or}
use Rattle.std.proofs.lemmas.List.{append-nil, get_or_default, map-append, take-append-drop}
use Rattle.std.proofs.lemmas.List.Elements.{filter-append}
use Rattle.pg_list.specs.declared.galley.Place.{Place}
use Rattle.pg_plan.specs.declared.pages.PageMove.{PageMove}
use Rattle.pg_plan.specs.declared.states.State.{State}
use Rattle.pg_column.specs.declared.cost.TextRoom.{TextRoom}
use Rattle.pg_column.specs.declared.end.End.{End}
use Rattle.pg_candidates.specs.RoomEnds.{end_of, ends_of}
use Rattle.pg_candidates.specs.declared.room_end.RoomEnd.{RoomEnd}
use Rattle.law_walk.specs.Candidates.{Candidate, has_text}
use Rattle.pg_list.specs.Flat.{is_same_place}
use Rattle.pg_lemmas.proofs.Bools.{by_bool, if_true}
use Rattle.pg_lemmas.proofs.Lists.{one_more}
use Rattle.pg_layouts.specs.declared.layout.Layout.{Layout}
use Rattle.pg_rules.specs.Follow.{turns}
use Rattle.pg_rules.specs.Room.{Document}
use Rattle.pg_table.specs.declared.step.Step.{Step}
use Rattle.law_moves.specs.Ages.{may_wait}
use Rattle.law_moves.specs.Listed.{goes_on, listed_end, listed_with, opens, placed_with}
use Rattle.law_moves.specs.Steps.{text_room}
use Rattle.pg_sources.specs.Document.{before_of}
use Rattle.pg_sources.specs.declared.calls.Before.{Before}
use Rattle.pg_rooms.specs.Laid.{laid_of}
use Rattle.pg_rooms.specs.declared.laid.Laid.{Laid}
use Rattle.pg_rooms.specs.PlaceEnds.{AreFrontEndsOf, AreGroups, AreRoomEnds, all_ends, ends_behind, ends_in, ends_left, groups_in, higher_end, room_behind}
use Rattle.pg_rooms.specs.declared.behind.Behind.{Behind}
use Rattle.pg_rooms.specs.declared.grouping.Group.{Group}
use Rattle.pg_rooms.specs.declared.place_ends.PlaceEnds.{PlaceEnds}
use Rattle.pg_rooms.specs.declared.place_ends.RoomEnds.{RoomEnds}
use Rattle.pg_rooms.proofs.Kept.{groups_right}
use Rattle.pg_states.specs.Settling.{Settles}
use Rattle.pg_states.specs.declared.settling.Settled.{Settled}
use Rattle.pg_layouts.proofs.OneMore.{flat_next}
use Rattle.pg_moves.specs.Stepping.{IsOpenAt, all_steps_in, steps_at, steps_behind}
use Rattle.pg_moves.specs.Thinned.{Adds}
use Rattle.pg_moves.proofs.Added.{adds_more, adds_none, adds_one, adds_same, adds_spared}

-- the steps to ends with the picks of these candidates
abbrev pub listed_of : Document → State → List (List ℕ) → Layout → List RoomEnd → List (Step State PageMove)
listed_of doc u cs layout ends = listed_with doc u (λ it. ends_of cs ends) layout

module _ (doc : Document) (u : State) (laid : Laid) (is : laid ≡ laid_of doc u laid.layout)
    (spared : State → ℤ → Bool) (cs : List (List ℕ)) where
  after_is : laid.after ≡ placed_with doc.style u.placed laid.layout
  after_is = ap (λ (it : Laid). it.after) is

  -- an end at which the column does not go on
  abbrev Stops : RoomEnd → Type 0
  Stops end = goes_on doc u laid.layout (end_of cs end) ≡ false

  stays : (end : RoomEnd) → is_same_place u.place end.to ≡ true → Stops end
  stays end e = by (is_same_place u.place end.to) _ e
    where
      by : (a c : Bool) → a ≡ true → (not a && c) ≡ false
      by true c e = refl
      by false c e = absurd cc

  unopened : (end : RoomEnd) → opens doc u end.to laid.after ≡ false → Stops end
  unopened end f = by (not (is_same_place u.place end.to))
      (opens doc u end.to (placed_with doc.style u.placed laid.layout)) _
      (subst (λ (after : List ℕ). opens doc u end.to after ≡ false) after_is f)
    where
      by : (a b c : Bool) → b ≡ false → (a && (b && c)) ≡ false
      by a true c e = absurd cc
      by true false c e = refl
      by false false c e = refl

  too_old : (end : RoomEnd) → may_wait doc u end.to laid.after (turns doc.style u) ≡ false → Stops end
  too_old end f = by (not (is_same_place u.place end.to))
      (opens doc u end.to (placed_with doc.style u.placed laid.layout)) _
      (subst (λ (after : List ℕ). may_wait doc u end.to after (turns doc.style u) ≡ false) after_is f)
    where
      by : (a b c : Bool) → c ≡ false → (a && (b && c)) ≡ false
      by true true c e = e
      by true false c e = refl
      by false b c e = refl

  goes : (end : RoomEnd) → is_same_place u.place end.to ≡ false → opens doc u end.to laid.after ≡ true →
      may_wait doc u end.to laid.after (turns doc.style u) ≡ true → goes_on doc u laid.layout (end_of cs end) ≡ true
  goes end away calls waits = by (is_same_place u.place end.to)
      (opens doc u end.to (placed_with doc.style u.placed laid.layout)) _ away
      (subst (λ (after : List ℕ). opens doc u end.to after ≡ true) after_is calls)
      (subst (λ (after : List ℕ). may_wait doc u end.to after (turns doc.style u) ≡ true) after_is waits)
    where
      by : (a b c : Bool) → a ≡ false → b ≡ true → c ≡ true → (not a && (b && c)) ≡ true
      by false true c e f g = g
      by false false c e f g = absurd cc
      by true b c e f g = absurd cc

  -- no step is added where the column goes on at no end
  none_step : (ends : List RoomEnd) (old : List (Step State PageMove)) → AllByRecursion Stops ends →
      Adds spared old (listed_of doc u cs laid.layout ends) old
  none_step ends old all = adds_same spared old old [] (listed_of doc u cs laid.layout ends)
      (sym (none ends all)) (adds_none spared old)
    where
      none : (ends : List RoomEnd) → AllByRecursion Stops ends → listed_of doc u cs laid.layout ends ≡ []
      none [] all = refl
      none (end ∷ ends) all = by (goes_on doc u laid.layout (end_of cs end)) all.0 (none ends all.1)
        where
          by : (b : Bool) → b ≡ false → listed_of doc u cs laid.layout ends ≡ [] →
              map (listed_end doc u laid.layout)
              (if b then end_of cs end ∷ filter (goes_on doc u laid.layout) (ends_of cs ends)
              else filter (goes_on doc u laid.layout) (ends_of cs ends)) ≡ []
          by false e h = h
          by true e h = absurd cc

  pub not_stepped : (end : RoomEnd) (settled : Settled) (old : List (Step State PageMove)) →
      is_same_place u.place end.to ≡ true → IsOpenAt doc u laid settled end.to →
      Adds spared old (listed_of doc u cs laid.layout (end ∷ [])) old
  not_stepped end settled old e stops = none_step (end ∷ []) old (stays end e, tt)

  -- the step to an end at which the column goes on
  module _ (end : RoomEnd) (settled : Settled) (step : Step State PageMove)
      (away : is_same_place u.place end.to ≡ false)
      (made : Settles doc u end.to laid.after (Some settled) → step ≡ listed_end doc u laid.layout (end_of cs end))
      (goes_there : IsOpenAt doc u laid settled end.to) where
    listed_is : step ∷ [] ≡ listed_of doc u cs laid.layout (end ∷ [])
    listed_is = ap (λ (it : Step State PageMove). it ∷ []) (made goes_there.1)
        ∙ sym (by (goes_on doc u laid.layout (end_of cs end)) (goes end away goes_there.0 goes_there.1.0))
      where
        by : (b : Bool) → b ≡ true → map (listed_end doc u laid.layout) (if b then end_of cs end ∷ [] else [])
            ≡ listed_end doc u laid.layout (end_of cs end) ∷ []
        by true e = refl
        by false e = absurd cc

    pub stepped : (old new : List (Step State PageMove)) → new ≡ old ++ step ∷ [] →
        Adds spared old (listed_of doc u cs laid.layout (end ∷ [])) new
    stepped old new is_new = adds_same spared old new (step ∷ []) (listed_of doc u cs laid.layout (end ∷ []))
        listed_is (adds_one spared old new step is_new)

    pub not_wanted : (old : List (Step State PageMove)) → spared step.to step.cost ≡ true →
        Adds spared old (listed_of doc u cs laid.layout (end ∷ [])) old
    not_wanted old h = adds_same spared old old (step ∷ []) (listed_of doc u cs laid.layout (end ∷ []))
        listed_is (adds_spared spared old step h)

  -- an end of which is remembered that its step comes too late, or where the state is
  pub outdone_step : (end : RoomEnd) (settled : Settled) (step : Step State PageMove) →
      (Settles doc u end.to laid.after (Some settled) → step ≡ listed_end doc u laid.layout (end_of cs end)) →
      IsOpenAt doc u laid settled end.to → (old : List (Step State PageMove)) → spared step.to step.cost ≡ true →
      Adds spared old (listed_of doc u cs laid.layout (end ∷ [])) old
  outdone_step end settled step made goes_there old late = by_bool (is_same_place u.place end.to)
      (λ same. not_stepped end settled old same goes_there)
      (λ away. not_wanted end settled step away made goes_there old late)

  -- ---- ends before each of which the same floats are called

  module _ (before : Before) where
    abbrev IsCalled : RoomEnd → Type 0
    IsCalled end = before ≡ before_of doc end.to

    all_of : (P : RoomEnd → Type 0) → ((end : RoomEnd) → IsCalled end → P end) → (ends : List RoomEnd) →
        AllByRecursion IsCalled ends → AllByRecursion P ends
    all_of P f [] all = tt
    all_of P f (end ∷ ends) all = (f end all.0, all_of P f ends all.1)

    pub group_closed : (ends : List RoomEnd) (after : List ℕ) (old : List (Step State PageMove)) (b : Bool) →
        after ≡ laid.after → b ≡ false →
        ((to : Place) → before ≡ before_of doc to → b ≡ opens doc u to after) →
        AllByRecursion IsCalled ends → Adds spared old (listed_of doc u cs laid.layout ends) old
    group_closed ends after old b a f tells all = none_step ends old (all_of Stops
        (λ end e. unopened end (subst (λ (x : List ℕ). opens doc u end.to x ≡ false) a (sym (tells end.to e) ∙ f)))
        ends all)

    pub group_old : (ends : List RoomEnd) (old : List (Step State PageMove)) (settled : Option Settled) →
        settled ≡ None →
        ((to : Place) → before ≡ before_of doc to → Settles doc u to laid.after settled) →
        AllByRecursion IsCalled ends → Adds spared old (listed_of doc u cs laid.layout ends) old
    group_old ends old settled e tells all = none_step ends old (all_of Stops
        (λ end i. too_old end (subst (Settles doc u end.to laid.after) e (tells end.to i))) ends all)

    pub group_open : (ends : List RoomEnd) (after : List ℕ) (b : Bool) (settled : Option Settled) (it : Settled) →
        after ≡ laid.after → b ≡ true →
        ((to : Place) → before ≡ before_of doc to → b ≡ opens doc u to after) → settled ≡ Some it →
        ((to : Place) → before ≡ before_of doc to → Settles doc u to laid.after settled) →
        AllByRecursion IsCalled ends → AllByRecursion (λ (end : RoomEnd). IsOpenAt doc u laid it end.to) ends
    group_open ends after b settled it a t calls e tells all = all_of (λ (end : RoomEnd). IsOpenAt doc u laid it end.to)
        (λ end i. (
          subst (λ (x : List ℕ). opens doc u end.to x ≡ true) a (sym (calls end.to i) ∙ t),
          subst (Settles doc u end.to laid.after) e (tells end.to i),
        )) ends all

-- the steps to some ends and then to others
pub listed_append : (doc : Document) (u : State) (cs : List (List ℕ)) (layout : Layout) (first later : List RoomEnd) →
    listed_of doc u cs layout (first ++ later) ≡ listed_of doc u cs layout first ++ listed_of doc u cs layout later
listed_append doc u cs layout first later =
    ap (λ (ends : List End). map (listed_end doc u layout) (filter (goes_on doc u layout) ends))
    (map-append (end_of cs) first later)
    ∙ (ap (map (listed_end doc u layout)) (filter-append (goes_on doc u layout) (ends_of cs first) (ends_of cs later))
    ∙ map-append (listed_end doc u layout) (filter (goes_on doc u layout) (ends_of cs first))
    (filter (goes_on doc u layout) (ends_of cs later)))

-- the steps to one more end, read with any default
pub steps_more : (doc : Document) (u : State) (spared : State → ℤ → Bool) (cs : List (List ℕ)) (layout : Layout)
    (ends : List RoomEnd) (i : ℕ) (d : RoomEnd) (old mid new : List (Step State PageMove)) → i < length ends →
    Adds spared old (listed_of doc u cs layout (take i ends)) mid →
    Adds spared mid (listed_of doc u cs layout (get_or ends i d ∷ [])) new →
    Adds spared old (listed_of doc u cs layout (take (i + 1) ends)) new
steps_more doc u spared cs layout ends i d old mid new less h k = adds_same spared old new
    (listed_of doc u cs layout (take i ends) ++ listed_of doc u cs layout (end ∷ []))
    (listed_of doc u cs layout (take (i + 1) ends))
    (sym (listed_append doc u cs layout (take i ends) (end ∷ []))
    ∙ ap (listed_of doc u cs layout) (sym (one_more ends i end less (get_or_default ends i d end less))))
    (adds_more spared old mid new (listed_of doc u cs layout (take i ends)) (listed_of doc u cs layout (end ∷ [])) h k)
  where
    end : RoomEnd
    end = get_or ends i d

-- the steps to the ends of two lists are those to the one and those to the other
both_lists : (doc : Document) (u : State) (layout : Layout) (es fs : List End) →
    listed_with doc u (λ _. es) layout ++ listed_with doc u (λ _. fs) layout
    ≡ listed_with doc u (λ _. es ++ fs) layout
both_lists doc u layout [] fs = refl
both_lists doc u layout (e ∷ es) fs = by (goes_on doc u layout e) (both_lists doc u layout es fs)
  where
    by : (b : Bool) → map (listed_end doc u layout) (filter (goes_on doc u layout) es)
        ++ listed_with doc u (λ _. fs) layout ≡ listed_with doc u (λ _. es ++ fs) layout →
        map (listed_end doc u layout)
        (if b then e ∷ filter (goes_on doc u layout) es else filter (goes_on doc u layout) es)
        ++ listed_with doc u (λ _. fs) layout
        ≡ map (listed_end doc u layout)
        (if b then e ∷ filter (goes_on doc u layout) (es ++ fs) else filter (goes_on doc u layout) (es ++ fs))
    by true h = ap (λ (steps : List (Step State PageMove)). listed_end doc u layout e ∷ steps) h
    by false h = h

-- the steps to ends with more height before them are the same
higher_steps : (doc : Document) (u : State) (layout : Layout) (height : ℤ) (es : List End) →
    listed_with doc u (λ _. map (higher_end height) es) layout ≡ listed_with doc u (λ _. es) layout
higher_steps doc u layout height [] = refl
higher_steps doc u layout height (e ∷ es) = by (goes_on doc u layout e) (higher_steps doc u layout height es)
  where
    by : (b : Bool) → listed_with doc u (λ _. map (higher_end height) es) layout ≡ listed_with doc u (λ _. es) layout →
        map (listed_end doc u layout)
        (if b then higher_end height e ∷ filter (goes_on doc u layout) (map (higher_end height) es)
        else filter (goes_on doc u layout) (map (higher_end height) es))
        ≡ map (listed_end doc u layout)
        (if b then e ∷ filter (goes_on doc u layout) es else filter (goes_on doc u layout) es)
    by true h = ap (λ (steps : List (Step State PageMove)). listed_end doc u layout e ∷ steps) h
    by false h = h

-- the steps behind a front are those to the ends there
steps_there : (doc : Document) (u : State) (o : Option Behind) (it : Laid) →
    steps_behind doc u o it ≡ listed_with doc u (λ _. ends_behind o it.room) it.layout
steps_there doc u None it = refl
steps_there doc u (Some behind) it = by (room_behind behind it.room)
  where
    by : (left : Option TextRoom) → option_map_or (λ (x : TextRoom).
        steps_at doc u behind.ends.walk.near.picks behind.ends.rooms.items x it) left []
        ≡ listed_with doc u (λ _. option_map_or (λ (x : TextRoom).
        map (higher_end behind.by) (ends_left behind x)) left []) it.layout
    by None = refl
    by (Some x) = sym (higher_steps doc u it.layout behind.by (ends_left behind x))

-- the steps of a laid layout are those to all ends in its room
steps_all : (doc : Document) (u : State) (kept : PlaceEnds) (it : Laid) →
    all_steps_in doc u kept it ≡ listed_with doc u (λ _. all_ends doc.style kept it.room) it.layout
steps_all doc u kept it = by (has_text doc.style it.room)
  where
    first : List End
    first = ends_of kept.walk.near.picks (ends_in kept.rooms.items it.room)

    by : (b : Bool) → (if b then listed_with doc u (λ _. first) it.layout ++ steps_behind doc u kept.behind it else [])
        ≡ listed_with doc u (λ _. if b then first ++ ends_behind kept.behind it.room else []) it.layout
    by true = ap (λ (steps : List (Step State PageMove)). listed_with doc u (λ _. first) it.layout ++ steps)
        (steps_there doc u kept.behind it)
        ∙ both_lists doc u it.layout first (ends_behind kept.behind it.room)
    by false = refl

-- the steps of laid layouts are those of the layouts, by all ends in their rooms
pub laid_steps : (doc : Document) (u : State) (kept : PlaceEnds) (layouts : List Layout) →
    flat_map (all_steps_in doc u kept) (map (laid_of doc u) layouts)
    ≡ flat_map (listed_with doc u (λ layout. all_ends doc.style kept (text_room doc u layout))) layouts
laid_steps doc u kept [] = refl
laid_steps doc u kept (layout ∷ layouts) =
    ap (λ (steps : List (Step State PageMove)).
    steps ++ flat_map (all_steps_in doc u kept) (map (laid_of doc u) layouts))
    (steps_all doc u kept (laid_of doc u layout))
    ∙ ap (λ (steps : List (Step State PageMove)).
    listed_with doc u (λ _. all_ends doc.style kept (text_room doc u layout)) layout ++ steps)
    (laid_steps doc u kept layouts)

-- what holds of each of a list holds at an index
pub all_at : {X : Type 0} (P : X → Type 0) (xs : List X) (i : ℕ) (d : X) → i < length xs → AllByRecursion P xs →
    P (get_or xs i d)
all_at P [] i d less all = absurd (omega (arith, less))
all_at P (y ∷ ys) zero d less all = all.0
all_at P (y ∷ ys) (suc i) d less all = all_at P ys i d (omega (arith, less)) all.1

-- some steps were added, and with those to the ends that are left they are those to all ends
pub record Going (doc : Document) (u : State) (spared : State → ℤ → Bool) (cs : List (List ℕ)) (layout : Layout)
    (ends rest : List RoomEnd) (old mid : List (Step State PageMove)) : Type 0 where
  pub gone : List (Step State PageMove)
  pub adds : Adds spared old gone mid
  pub whole : gone ++ listed_of doc u cs layout rest ≡ listed_of doc u cs layout ends

-- before the first group nothing was
pub not_gone : (doc : Document) (u : State) (spared : State → ℤ → Bool) (cs : List (List ℕ)) (layout : Layout)
    (ends : List RoomEnd) (old : List (Step State PageMove)) → Going doc u spared cs layout ends ends old old
not_gone doc u spared cs layout ends old = record { gone = []; adds = adds_none spared old; whole = refl }

-- the steps to the first of the ends that are left, and then to those behind these
pub going_more : (doc : Document) (u : State) (spared : State → ℤ → Bool) (cs : List (List ℕ)) (layout : Layout)
    (ends rest first later : List RoomEnd) (old mid new : List (Step State PageMove)) → rest ≡ first ++ later →
    Going doc u spared cs layout ends rest old mid → Adds spared mid (listed_of doc u cs layout first) new →
    Going doc u spared cs layout ends later old new
going_more doc u spared cs layout ends rest first later old mid new is so_far k = record {
  gone = so_far.gone ++ listed_of doc u cs layout first;
  adds = adds_more spared old mid new so_far.gone (listed_of doc u cs layout first) so_far.adds k;
  whole = append_assoc so_far.gone (listed_of doc u cs layout first) (listed_of doc u cs layout later)
      ∙ (ap (λ (steps : List (Step State PageMove)). so_far.gone ++ steps)
      (sym (listed_append doc u cs layout first later)
      ∙ ap (listed_of doc u cs layout) (sym is)) ∙ so_far.whole);
}

-- one group more: the steps to its ends, and then to those behind it
group_more : (doc : Document) (u : State) (spared : State → ℤ → Bool) (cs : List (List ℕ)) (layout : Layout) (n : ℕ)
    (ends rest later : List RoomEnd) (old mid new : List (Step State PageMove)) → later ≡ drop n rest →
    Going doc u spared cs layout ends rest old mid →
    Adds spared mid (listed_of doc u cs layout (take n rest)) new → Going doc u spared cs layout ends later old new
group_more doc u spared cs layout n ends rest later old mid new l so_far k =
    going_more doc u spared cs layout ends rest (take n rest) later old mid new
    (sym (take-append-drop n rest) ∙ ap (λ (xs : List RoomEnd). take n rest ++ xs) (sym l)) so_far k

pub group_next : (doc : Document) (u : State) (spared : State → ℤ → Bool) (cs : List (List ℕ)) (layout : Layout)
    (groups left after : List Group) (group : Group) (before : Before) (ends rest first later : List RoomEnd)
    (old mid new : List (Step State PageMove)) → left ≡ group ∷ after → before ≡ group.before →
    first ≡ take group.count rest → later ≡ drop group.count rest →
    (AreGroups doc groups ends → AreGroups doc left rest × Going doc u spared cs layout ends rest old mid) →
    (AllByRecursion (λ (end : RoomEnd). before ≡ before_of doc end.to) first →
    Adds spared mid (listed_of doc u cs layout first) new) → AreGroups doc groups ends →
    AreGroups doc after later × Going doc u spared cs layout ends later old new
group_next doc u spared cs layout groups left after group before ends rest first later old mid new split c f l so_far
    step all =
    let got = so_far all in
    let here : AreGroups doc (group ∷ after) rest = subst (λ (gs : List Group). AreGroups doc gs rest) split got.0 in
    let called_here : AllByRecursion (λ (end : RoomEnd). before ≡ before_of doc end.to) first =
    subst (AllByRecursion (λ (end : RoomEnd). before ≡ before_of doc end.to)) (sym f)
    (subst (λ (it : Before). AllByRecursion (λ (end : RoomEnd). it ≡ before_of doc end.to)
    (take group.count rest)) (sym c) here.0) in (
      subst (AreGroups doc after) (sym l) here.1,
      group_more doc u spared cs layout group.count ends rest later old mid new l got.1
          (subst (λ (xs : List RoomEnd). Adds spared mid (listed_of doc u cs layout xs) new) f (step called_here)),
    )

-- where no end is left
pub all_gone : (doc : Document) (u : State) (spared : State → ℤ → Bool) (cs : List (List ℕ)) (layout : Layout)
    (ends rest : List RoomEnd) (old new : List (Step State PageMove)) → rest ≡ [] →
    Going doc u spared cs layout ends rest old new → Adds spared old (listed_of doc u cs layout ends) new
all_gone doc u spared cs layout ends rest old new none got =
    adds_same spared old new got.gone (listed_of doc u cs layout ends)
    (sym (append-nil got.gone)
    ∙ (ap (λ (xs : List RoomEnd). got.gone ++ listed_of doc u cs layout xs) (sym none) ∙ got.whole))
    got.adds

-- where no group is left
pub groups_done : (doc : Document) (u : State) (spared : State → ℤ → Bool) (cs : List (List ℕ)) (layout : Layout)
    (groups left : List Group) (ends rest : List RoomEnd) (old new : List (Step State PageMove)) → length left < 1 →
    (AreGroups doc groups ends → AreGroups doc left rest × Going doc u spared cs layout ends rest old new) →
    AreGroups doc groups ends → Adds spared old (listed_of doc u cs layout ends) new
groups_done doc u spared cs layout groups [] ends rest old new less so_far all =
    let got = so_far all in all_gone doc u spared cs layout ends rest old new got.0 got.1
groups_done doc u spared cs layout groups (group ∷ left) ends rest old new less so_far all =
    absurd (omega (arith, less))

-- the steps to the ends that are kept of a room
pub in_room : (doc : Document) (u : State) (spared : State → ℤ → Bool) (it : Laid) (all : List Candidate) (cs : List (List ℕ))
    (rooms : List RoomEnds) (room : TextRoom) (groups : List Group) (ends : List RoomEnd)
    (old new : List (Step State PageMove)) → groups ≡ groups_in rooms room → ends ≡ ends_in rooms room →
    (AreGroups doc groups ends → Adds spared old (listed_of doc u cs it.layout ends) new) →
    AllByRecursion (AreRoomEnds doc all cs) rooms → Adds spared old (steps_at doc u cs rooms room it) new
in_room doc u spared it all cs rooms room groups ends old new g e step right =
    subst (λ (xs : List RoomEnd). Adds spared old (listed_of doc u cs it.layout xs) new) e
    (step (subst (λ (gs : List Group). AreGroups doc gs ends) (sym g)
    (subst (AreGroups doc (groups_in rooms room)) (sym e) (groups_right doc all cs rooms room right))))

-- the steps behind a front are those to the ends in what the room of a layout leaves there
pub behind_added : (doc : Document) (u : State) (spared : State → ℤ → Bool) (it : Laid) (behind : Behind)
    (left : Option TextRoom) (room : TextRoom) (old new : List (Step State PageMove)) →
    left ≡ room_behind behind it.room → left ≡ Some room →
    ((all : List Candidate) → AllByRecursion (AreRoomEnds doc all behind.ends.walk.near.picks)
    behind.ends.rooms.items → Adds spared old
    (steps_at doc u behind.ends.walk.near.picks behind.ends.rooms.items room it) new) →
    (all : List Candidate) → AreFrontEndsOf doc all behind.ends →
    Adds spared old (steps_behind doc u (Some behind) it) new
behind_added doc u spared it behind left room old new is some step all are = subst (λ (o : Option TextRoom).
    Adds spared old (option_map_or (λ (x : TextRoom).
    steps_at doc u behind.ends.walk.near.picks behind.ends.rooms.items x it) o []) new)
    (sym some ∙ is) (step all are.rooms)

-- there are none where the room of a layout leaves nothing
pub behind_none : (doc : Document) (u : State) (spared : State → ℤ → Bool) (it : Laid) (behind : Behind)
    (left : Option TextRoom) (old : List (Step State PageMove)) → left ≡ room_behind behind it.room → left ≡ None →
    Adds spared old (steps_behind doc u (Some behind) it) old
behind_none doc u spared it behind left old is none = subst (λ (o : Option TextRoom).
    Adds spared old (option_map_or (λ (x : TextRoom).
    steps_at doc u behind.ends.walk.near.picks behind.ends.rooms.items x it) o []) old)
    (sym none ∙ is) (adds_none spared old)

module _ (doc : Document) (u : State) (spared : State → ℤ → Bool) (it : Laid) (kept : PlaceEnds)
    (text : has_text doc.style it.room ≡ true) where
  abbrev first_steps : List (Step State PageMove)
  first_steps = steps_at doc u kept.walk.near.picks kept.rooms.items it.room it

  -- those along the first stretch, and then those behind the front
  added_on : (old mid new : List (Step State PageMove)) → Adds spared old first_steps mid →
      Adds spared mid (steps_behind doc u kept.behind it) new → Adds spared old (all_steps_in doc u kept it) new
  added_on old mid new first later = adds_same spared old new (first_steps ++ steps_behind doc u kept.behind it)
      (all_steps_in doc u kept it)
      (sym (if_true (has_text doc.style it.room) (first_steps ++ steps_behind doc u kept.behind it) [] text))
      (adds_more spared old mid new first_steps (steps_behind doc u kept.behind it) first later)

  -- where nothing is kept behind it
  pub added_alone : (old mid : List (Step State PageMove)) → kept.behind ≡ None → Adds spared old first_steps mid →
      Adds spared old (all_steps_in doc u kept it) mid
  added_alone old mid none first = added_on old mid mid first
      (subst (λ (o : Option Behind). Adds spared mid (steps_behind doc u o it) mid) (sym none) (adds_none spared mid))

  -- where something is
  pub added_both : (behind : Behind) (old mid new : List (Step State PageMove)) → kept.behind ≡ Some behind →
      (all : List Candidate) → IfSome kept.behind (λ (b : Behind). AreFrontEndsOf doc all b.ends) →
      Adds spared old first_steps mid → (AreFrontEndsOf doc all behind.ends → Adds spared mid (steps_behind doc u (Some behind) it) new) →
      Adds spared old (all_steps_in doc u kept it) new
  added_both behind old mid new some all are first step = added_on old mid new first
      (subst (λ (o : Option Behind). Adds spared mid (steps_behind doc u o it) new) (sym some)
      (step (subst (λ (o : Option Behind). IfSome o (λ (b : Behind). AreFrontEndsOf doc all b.ends)) some are)))

-- the steps of one layout more
pub layouts_more : {X : Type 0} (f : X → List (Step State PageMove)) (spared : State → ℤ → Bool)
    (old mid new : List (Step State PageMove)) (xs : List X) (i : ℕ) (x : X) → i < length xs → get_or xs i x ≡ x →
    Adds spared old (flat_map f (take i xs)) mid → Adds spared mid (f x) new →
    Adds spared old (flat_map f (take (i + 1) xs)) new
layouts_more f spared old mid new xs i x less is h k = adds_same spared old new (flat_map f (take i xs) ++ f x)
    (flat_map f (take (i + 1) xs))
    (flat_next f [] (flat_map f (take i xs)) (flat_map f (take i xs) ++ f x) xs i x less is refl refl)
    (adds_more spared old mid new (flat_map f (take i xs)) (f x) h k)
