-- The furthest label of a filled table is the furthest of all beginnings.
use Rattle.std.proofs.Common.{◌≡◌, refl, ap, subst, ◌∙◌, ℕ, ◌<◌, List, [], length, true, false}
use Rattle.std.specs.Prelude.{◌≢◌, Contains, Some, pos, slice_get}
use Rattle.std.specs.Ordering.{is_lt}
use Rattle.std.specs.declared.cmp.Ordering.{Ordering}
use Rattle.std.specs.declared.cmp.Ordering.TheVariants.{Less, Equal, Greater}
use Rattle.std.proofs.lemmas.Option.{slice_get_within}
use Rattle.pg_lemmas.proofs.Bools.{both_of}
use Rattle.pg_list.specs.GalleyValue.{GalleyValue}
use Rattle.pg_list.specs.declared.galley.Place.{Place}
use Rattle.pg_list.proofs.Places.{same_place}
use Rattle.pg_list.specs.Flat.{is_same_place}
use Rattle.pg_plan.specs.Order.{columns, place_cmp}
use Rattle.pg_plan.specs.declared.pages.PageMove.{PageMove}
use Rattle.pg_plan.specs.declared.pages.Pagination.{Pagination}
use Rattle.pg_plan.specs.declared.states.State.{State}
use Rattle.pg_style.specs.Values.{StyleValue}
use Rattle.pg_rules.specs.Cost.{cost}
use Rattle.pg_rules.specs.Legal.{document}
use Rattle.pg_rules.specs.NoWorse.{is_no_worse, is_same_key, are_no_older, key}
use Rattle.pg_rules.specs.Ranges.{AreInRange}
use Rattle.pg_rules.specs.States.{Prefix, state_at, state_of}
use Rattle.law_columns.specs.BeginningLaws.{IsPushed}
use Rattle.law_columns.specs.Pages.{plan_of}
use Rattle.law_columns.proofs.BeginningContracts.{pushed}
use Rattle.law_space.specs.PageSpace.{FollowBest, page_meaning, wide_meaning}
use Rattle.law_space.specs.SpaceLaws.{IsBeginningOf, IsRunOfColumns}
use Rattle.law_space.proofs.Bounds.{pages_lawful}
use Rattle.law_space.proofs.Least.{best_narrower}
use Rattle.law_space.proofs.SpaceContracts.{beginnings_are_runs, best_betters, runs_are_beginnings}
use Rattle.pg_table.specs.Label.{Covered, IsLabel, IsTable, RunOf}
use Rattle.pg_table.specs.Narrower.{BetteredBy}
use Rattle.pg_table.specs.Space.{Reached, Run}
use Rattle.pg_table.specs.declared.table.Entry.{Entry}
use Rattle.pg_table.proofs.Labels.{label_run}
use Rattle.pg_table.proofs.Lists.{at_contains, contains_at, some_length}
use Rattle.pg_table.proofs.Narrow.{run_inside}
use Rattle.pg_furthest.specs.Furthest.{Begins, ComesTo, IsBeginning, IsLastAmong, NoneLeadsOn, StandsFurthest}

-- what is no worse stands at the same place
no_worse_place : (a b : State) → is_no_worse a b ≡ true → a.place ≡ b.place
no_worse_place a b h =
    let t = both_of (is_same_key (key a) (key b)) (are_no_older a.ages b.ages) h in
    let s = both_of (is_same_place a.place b.place) _ t.0 in
    same_place a.place b.place s.0

not_less : (o : Ordering) → is_lt o ≡ false → o ≢ Less
not_less Less e h = absurd cc
not_less Equal e h = absurd cc
not_less Greater e h = absurd cc

module _ (g : GalleyValue) (s : StyleValue) (range : AreInRange g s) where
  pub leads_on : NoneLeadsOn g s
  leads_on at plan m v c furthest prefix here follow =
      let p : IsPushed g s plan m v c = pushed g s range plan m v c prefix follow in
      furthest.last m.column.to (record {
        plan = p.longer;
        prefix = p.prefix;
        ends = ap (λ (u : State). u.place) (p.state ∙ follow.leads);
      })

  module _ (es : List (Entry State PageMove)) (table : IsTable (page_meaning (document g s)) es) where
    -- some label covers the empty beginning
    start_covered : Covered (page_meaning (document g s)) es (record { moves = []; state = state_at (document g s) []; cost = pos 0 })
    start_covered = table.covered (record { moves = []; state = state_at (document g s) []; cost = pos 0 }) (refl, refl)

    pub some_label : 0 < length es
    some_label = some_length es start_covered.entry start_covered.among

    -- the run of a label is one with any picks
    pub label_wide : (e : Entry State PageMove) (ms : List PageMove) → Contains es e → RunOf es e ms →
        Run (wide_meaning (document g s)) ms e.state e.cost
    label_wide e ms among of = run_inside is_same_key (wide_meaning (document g s)) (pages_lawful g s range)
        (FollowBest (document g s)) (best_narrower (document g s)) ms e.state e.cost
        (label_run (page_meaning (document g s)) es e ms (table.labels e among) of)

    begins_of : (e : Entry State PageMove) (ms : List PageMove) → Contains es e → RunOf es e ms →
        IsBeginning g s e (plan_of s ms)
    begins_of e ms among of =
        let b : IsBeginningOf g s ms e.state e.cost =
        runs_are_beginnings g s range ms e.state e.cost (label_wide e ms among of) in
        record { prefix = b.prefix; state = b.state; cost = b.cost }

    pub begins : (at : ℕ) (ms : List PageMove) →
        ((e : Entry State PageMove) → slice_get es at ≡ Some e → RunOf es e ms) → Begins g s es at (plan_of s ms)
    begins at ms of e is = begins_of e ms (contains_at es at e is) (of e is)

    -- each beginning ends where some label stands; no list in order is needed: the best run betters it, a label covers that
    -- one, and no worse is at the same place
    reaches : (plan : Pagination) → Prefix g s plan →
        (e : Entry State PageMove) × (Contains es e × (e.state.place ≡ (state_of g s plan).place))
    reaches plan prefix =
        let r : IsRunOfColumns g s plan = beginnings_are_runs g s range plan prefix in
        let run : Reached State PageMove =
        record { moves = columns plan; state = state_of g s plan; cost = cost g s plan } in
        let k : BetteredBy (wide_meaning (document g s)) (FollowBest (document g s)) run =
        best_betters g s range run r.run in
        let t : Covered (page_meaning (document g s)) es k.reached = table.covered k.reached k.run in (
          t.entry,
          (
            t.among,
            no_worse_place t.entry.state k.reached.state t.better.no_worse
                ∙ no_worse_place k.reached.state (state_of g s plan) k.better.no_worse,
          ),
        )

    pub furthest : (at : ℕ) → IsLastAmong es (length es) at → StandsFurthest g s es at
    furthest at last e is = record { comes = comes; last = none_behind }
      where
        label : IsLabel (page_meaning (document g s)) es e
        label = table.labels e (contains_at es at e is)

        own : IsBeginning g s e (plan_of s label.moves)
        own = begins_of e label.moves (contains_at es at e is) label.run_of

        comes : ComesTo g s e.state.place
        comes = record {
          plan = plan_of s label.moves;
          prefix = own.prefix;
          ends = ap (λ (u : State). u.place) own.state;
        }

        none_behind : (other : Place) → ComesTo g s other → place_cmp e.state.place other ≢ Less
        none_behind other it =
            let r = reaches it.plan it.prefix in
            let p = at_contains es r.0 r.1.0 in
            subst (λ (x : Place). place_cmp e.state.place x ≢ Less) (r.1.1 ∙ it.ends)
            (not_less (place_cmp e.state.place r.0.state.place)
            (last e r.0 p.0 is p.1 (slice_get_within es p.0 r.0 p.1)))
