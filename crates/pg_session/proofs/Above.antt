-- No label reaches as far as the block that stands for what nobody touched.
use Rattle.std.proofs.Common.{◌≡◌, refl, sym, ap, subst, ◌∙◌, ℕ, ◌+◌, ◌<◌, ◌≤◌, ◌⊎◌, inl, inr, Bool, List, [], ◌∷◌, false, length, arith}
use Rattle.std.specs.Prelude.{◌==◌, Contains, cond, nat_le}
use Rattle.std.specs.List.{count_by}
use Rattle.std.proofs.lemmas.List.Sums.{sum_by-cons}
use Rattle.std.proofs.lemmas.Bool.{eqb-true}
use Rattle.pg_list.specs.Flat.{flat_items_at, fronts}
use Rattle.pg_lemmas.proofs.Bools.{both_of, by_bool}
use Rattle.pg_lemmas.proofs.Numbers.{le_true}
use Rattle.pg_list.specs.Counts.{item_count, item_limit}
use Rattle.pg_list.specs.GalleyValue.{GalleyValue}
use Rattle.pg_list.specs.declared.galley.Place.{Place}
use Rattle.pg_list.proofs.Sizes.{blocks_le}
use Rattle.pg_plan.specs.Order.{columns}
use Rattle.pg_plan.specs.declared.states.Label.{Label}
use Rattle.pg_plan.specs.declared.states.State.{State}
use Rattle.pg_style.specs.Values.{StyleValue}
use Rattle.pg_rules.specs.Cost.{cost}
use Rattle.pg_rules.specs.Frontier.{Frontier, IsLabel}
use Rattle.pg_rules.specs.IsState.{IsPlace, IsState}
use Rattle.pg_rules.specs.Legal.{document}
use Rattle.pg_rules.specs.Ranges.{AreInRange}
use Rattle.pg_rules.specs.NoWorse.{is_same_key}
use Rattle.pg_rules.specs.Reach.{IsReach}
use Rattle.pg_rules.specs.States.{state_of}
use Rattle.law_places.proofs.Members.{among_contains}
use Rattle.law_places.proofs.Among.{Among}
use Rattle.law_places.specs.Past.{IsPast}
use Rattle.law_places.proofs.Measures.{place_within}
use Rattle.law_places.proofs.Places.{ends_at}
use Rattle.law_space.proofs.ReachAt.{reach_is}
use Rattle.pg_space.specs.declared.solving.Outcome.{Outcome}
use Rattle.law_space.proofs.Bounds.{pages_lawful}
use Rattle.law_space.proofs.SpaceContracts.{beginnings_are_runs}
use Rattle.law_space.specs.PageSpace.{wide_meaning}
use Rattle.pg_table.proofs.Runs.{own}
use Rattle.pg_session.specs.SessionValue.{SessionValue}
use Rattle.pg_session.specs.Reached.{HaveReach}
use Rattle.pg_session.specs.Sessions.{IsSolved, above_all, label_reach, labels_reaching}

pub all_below : (g : GalleyValue) (s : StyleValue) (from : Place) (reach : ℕ) → AreInRange g s → IsPlace g.blocks from →
    IsReach (document g s) from reach → reach < above_all
all_below g s from reach range place is =
    let picked = both_of (fronts (flat_items_at g.blocks from is.reached.picks) is.reached.size
    == length is.reached.picks) _ is.reached.picked in
    let few : length g.blocks ≤ item_count g.blocks = blocks_le g.blocks range.blocks in
    let limit : item_count g.blocks ≤ item_limit = range.limit in
    let last : is.last.block ≤ length g.blocks = within is.last (ends_at g.blocks from is.last is.reached.picks
    is.reached.size range.blocks place (eqb-true _ _ picked.1) is.reached.leads) in
    omega (arith, is.one_more, few, limit, last)
  where
    within : (to : Place) → (to ≡ from) ⊎ IsPast g.blocks from to → to.block ≤ length g.blocks
    within to (inl same) =
        subst (λ (x : Place). x.block ≤ length g.blocks) (sym same) (place_within g.blocks from place)
    within to (inr past) = place_within g.blocks to past.place

-- tests that all fail count none
count_none : {X : Type 0} (p : X → Bool) (xs : List X) → ((x : X) → Among x xs → p x ≡ false) → count_by p xs ≡ 0
count_none p [] fails = refl
count_none p (x ∷ xs) fails =
    let first : cond {A = ℕ} (p x) 1 0 ≡ 0 = ap (λ (b : Bool). cond {A = ℕ} b 1 0) (fails x (inl refl)) in
    let rest : count_by p xs ≡ 0 = count_none p xs (λ y among. fails y (inr among)) in
    let split : count_by p (x ∷ xs) ≡ cond (p x) 1 0 + count_by p xs = sum_by-cons (λ y. cond (p y) 1 0) x xs in
    omega (arith, first, rest, split)

-- the place of a label is one of the galley
label_place : (g : GalleyValue) (s : StyleValue) (label : Label) → AreInRange g s → IsLabel g s label →
    IsPlace g.blocks label.state.place
label_place g s label range is =
    let own_state : IsState (document g s) (state_of g s is.plan) =
    own is_same_key (wide_meaning (document g s)) (pages_lawful g s range) (columns is.plan)
    (state_of g s is.plan) (cost g s is.plan) (beginnings_are_runs g s range is.plan is.prefix).run in
    subst (λ (u : State). IsPlace g.blocks u.place) is.state own_state.place

-- each label of a frontier has its reach
pub labels_reach : (g : GalleyValue) (s : StyleValue) (labels : List Label) → AreInRange g s → Frontier g s labels →
    HaveReach g s labels (label_reach g s)
labels_reach g s labels range frontier label among =
    reach_is (document g s) range.blocks label.state.place
    (label_place g s label range ((frontier.complete label).0 among))

-- no label of a frontier reaches it
pub none_reach : (g : GalleyValue) (s : StyleValue) (labels : List Label) → AreInRange g s → Frontier g s labels →
    labels_reaching above_all g s labels ≡ 0
none_reach g s labels range frontier =
    count_none (λ (label : Label). nat_le above_all (label_reach g s label)) labels
    (λ label among. low label (among_contains labels label among))
  where
    low : (label : Label) → Contains labels label → nat_le above_all (label_reach g s label) ≡ false
    low label among =
        let less : label_reach g s label < above_all = all_below g s label.state.place (label_reach g s label) range
        (label_place g s label range ((frontier.complete label).0 among))
        (labels_reach g s labels range frontier label among) in
        by_bool (nat_le above_all (label_reach g s label))
        (λ e. absurd (let l : above_all ≤ label_reach g s label =
        le_true above_all (label_reach g s label) e in omega (arith, less, l))) (λ e. e)

-- so a session of which nothing is touched is solved without a step
pub solved_still : (old new : SessionValue) (outcome : Outcome) (before after : ℕ) → AreInRange old.galley old.style →
    old.touched ≡ above_all → IsSolved old outcome new before after → after ≤ before
solved_still old new outcome before after range untouched solved =
    let none : labels_reaching old.touched old.galley old.style new.labels ≡ 0 =
    ap (λ (block : ℕ). labels_reaching block old.galley old.style new.labels) untouched
    ∙ none_reach old.galley old.style new.labels range solved.frontier in
    let bounded = solved.bounded in omega (arith, none, bounded)
