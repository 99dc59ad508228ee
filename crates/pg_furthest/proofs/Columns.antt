-- The columns of a label's run.
use Rattle.std.proofs.Common.{◌≡◌, refl, sym, subst, true, ◌<◌, ◌≤◌, ◌^◌, ℕ, List, [], ◌∷◌, length, arith}
use Rattle.std.proofs.lemmas.Option.{slice_get_within}
use Rattle.pg_lemmas.proofs.Lists.{some_at}
use Rattle.std.specs.Prelude.{Option, Some, None, IfSome, IfNone, slice_get, ℤ}
use Rattle.pg_list.specs.GalleyValue.{GalleyValue}
use Rattle.pg_plan.specs.declared.pages.PageMove.{PageMove}
use Rattle.pg_plan.specs.declared.states.State.{State}
use Rattle.pg_style.specs.Values.{StyleValue}
use Rattle.pg_rules.specs.IsState.{IsState}
use Rattle.pg_rules.specs.Legal.{document}
use Rattle.pg_rules.specs.Ranges.{AreInRange}
use Rattle.pg_rules.specs.Room.{Document}
use Rattle.pg_parts.specs.Priced.{ArePriced}
use Rattle.pg_parts.specs.declared.priced.PricedColumn.{PricedColumn}
use Rattle.law_columns.specs.BeginningLaws.{KeepsBeginningRules}
use Rattle.law_columns.specs.Pages.{plan_of}
use Rattle.law_columns.specs.Stands.{Stand}
use Rattle.law_columns.proofs.BeginningContracts.{prefixes_keep_rules}
use Rattle.law_space.specs.PageSpace.{page_meaning, wide_meaning}
use Rattle.law_space.specs.SpaceLaws.{IsBeginningOf, TellsAll}
use Rattle.law_space.proofs.Bounds.{moves}
use Rattle.law_space.proofs.SpaceContracts.{runs_are_beginnings}
use Rattle.pg_table.specs.Label.{IsBestOf, IsLabel, IsTable, NoneDone, RunOf}
use Rattle.pg_table.specs.Space.{Run}
use Rattle.pg_table.specs.declared.table.Entry.{Entry}
use Rattle.pg_table.proofs.Lists.{contains_at}
use Rattle.pg_furthest.specs.Pages.{AreColumns, IsBestLabel, TellsBest, TellsLegal}
use Rattle.pg_furthest.proofs.Furthest.{label_wide}

-- what a table says of its best label
pub told : (g : GalleyValue) (s : StyleValue) (labels : List (Entry State PageMove)) (o : Option ℕ) →
    TellsAll g s labels → IfSome o (λ (at : ℕ). IsBestOf (page_meaning (document g s)) labels labels at) →
    IfNone o (NoneDone (page_meaning (document g s)) labels) → TellsBest g s labels o
told g s labels None all some none = all.none none
told g s labels (Some at) all some none = record {
  within = slice_get_within labels at some.entry some.is;
  best = λ label ms is of. all.best at label ms some is of;
}

-- where a label is best, something is legal
pub best_legal : (g : GalleyValue) (s : StyleValue) (labels : List (Entry State PageMove)) (at : ℕ) →
    IsTable (page_meaning (document g s)) labels → IsBestLabel g s labels at → TellsLegal g s true
best_legal g s labels at table best =
    let label = some_at labels at best.within in
    let own : IsLabel (page_meaning (document g s)) labels label.0 =
    table.labels label.0 (contains_at labels at label.0 label.1) in
    (plan_of s own.moves, (best.best label.0 own.moves label.1 own.run_of).0.legal)

module _ (g : GalleyValue) (s : StyleValue) (range : AreInRange g s) where
  -- a run has fewer columns than its weight
  short : (ms : List PageMove) (u : State) (c : ℤ) → Run (wide_meaning (document g s)) ms u c →
      IsState (document g s) u × (length ms ≤ (moves g s range).weight u)
  short [] u c (is, free) = (subst (IsState (document g s)) (sym is) (moves g s range).start, omega arith)
  short (m ∷ ms) v c (u, (n, k, (run, follow, sum))) =
      let before = short ms u n run in
      let fewer : length ms ≤ (moves g s range).weight u = before.1 in
      let more : (moves g s range).weight u < (moves g s range).weight v =
      (moves g s range).heavier u m v k before.0 follow in
      ((moves g s range).own u m v k before.0 follow, omega (arith, fewer, more))

  pub are_columns : (labels : List (Entry State PageMove)) (at : ℕ) (label : Entry State PageMove) (ms : List PageMove) →
      IsTable (page_meaning (document g s)) labels → slice_get labels at ≡ Some label → RunOf labels label ms →
      AreColumns g s ms
  are_columns labels at label ms table is of =
      let run = label_wide g s range labels table label ms (contains_at labels at label is) of in
      let it : IsBeginningOf g s ms label.state label.cost = runs_are_beginnings g s range ms label.state label.cost run in
      let keeps : KeepsBeginningRules g s (plan_of s ms) = (prefixes_keep_rules g s range (plan_of s ms)).0 it.prefix in
      let few = short ms label.state label.cost run in
      let fewer : length ms ≤ (moves g s range).weight label.state = few.1 in
      let light : (moves g s range).weight label.state < 2 ^ 30 = (moves g s range).light label.state few.0 in
      record {
        columns = it.columns;
        stand = subst (Stand (document g s)) it.columns keeps.stand;
        few = omega (arith, fewer, light);
      }

-- as many columns are told as there are
pub priced_long : (doc : Document) (ms : List PageMove) (told : List PricedColumn) → ArePriced doc ms told →
    length told ≡ length ms
priced_long doc [] [] are = refl
priced_long doc (m ∷ ms) (it ∷ told) (is, are) = let r = priced_long doc ms told are in omega (arith, r)
priced_long doc [] (it ∷ told) are = absurd are
priced_long doc (m ∷ ms) [] are = absurd are
