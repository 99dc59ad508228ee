-- Answers that the clauses of outcomes, states and reaches exclude.
use Rattle.std.proofs.Common.{◌≡◌, ◌⊎◌, refl, arith, ℕ, true, false, [], ◌∷◌, List, None, inl, inr}
use Rattle.std.specs.Prelude.{Bool, Contains, ℤ, ◌<ℤ◌}
use Rattle.std.proofs.lemmas.Int.{ints}
use Rattle.pg_lemmas.proofs.Bools.{both_of, not_both}
use Rattle.pg_list.specs.GalleyValue.{GalleyValue}
use Rattle.pg_list.specs.Places.{place}
use Rattle.pg_list.specs.declared.galley.Place.{Place}
use Rattle.pg_plan.specs.declared.pages.Pagination.{Pagination}
use Rattle.pg_plan.specs.declared.states.Side.TheVariants.{S as Single}
use Rattle.pg_plan.specs.declared.states.State.{State}
use Rattle.pg_style.specs.Values.{StyleValue}
use Rattle.pg_rules.specs.Cost.{cost}
use Rattle.pg_rules.specs.IsState.{IsState}
use Rattle.pg_rules.specs.Legal.{Legal, has_dealt_all, is_spent_at}
use Rattle.pg_rules.specs.NoWorse.{is_no_worse}
use Rattle.pg_rules.specs.Reach.{IsReach}
use Rattle.pg_rules.specs.Room.{Document}
use Rattle.pg_rules.specs.States.{is_done}
use Rattle.pg_space.specs.Solves.{Solves}
use Rattle.pg_space.specs.declared.solving.Outcome.TheVariants.{Best as BestIs, NoLegal}
use Rattle.pg_table.specs.Space.{AreWanted, Meaning}
use Rattle.pg_table.specs.declared.step.Step.{Step}

-- none is not answered where a pagination is legal
none_beside_a_legal_one : (galley : GalleyValue) (style : StyleValue) (plan : Pagination) → Legal galley style plan →
    Solves galley style NoLegal → ⊥
none_beside_a_legal_one galley style plan legal none = none plan legal

-- no pagination is best beside a cheaper one, as one whose columns are filled as far as they go
best_beside_a_cheaper_one : (galley : GalleyValue) (style : StyleValue) (plan other : Pagination) (total : ℤ) →
    Legal galley style other → cost galley style other <ℤ cost galley style plan →
    Solves galley style (BestIs plan total) → ⊥
best_beside_a_cheaper_one galley style plan other total legal cheaper solves =
    let least = solves.0.least other legal in omega (arith, ints, least, cheaper)

-- with a float that has waited for so many pages
abbrev waited : ℕ → State
waited age = record {
  place = place 3 0 0;
  column = 1;
  side = Single;
  run = None;
  wide = None;
  fitness = None;
  placed = 0 ∷ [];
  ages = age ∷ [];
}

-- of two states that differ in an age alone the older is not as good
older_is_worse : is_no_worse (waited 2) (waited 1) ≡ false
older_is_worse = refl

younger_is_no_worse : is_no_worse (waited 1) (waited 2) ≡ true
younger_is_no_worse = refl

-- no state is in a third column
state_in_a_third_column : (doc : Document) (u : State) → u.column ≡ 3 → IsState doc u → ⊥
state_in_a_third_column doc u third is = let low = is.column.1.1 in omega (arith, low, third)

-- nothing is done where a float waits
done_beside_a_float : (doc : Document) (u : State) → has_dealt_all doc u.placed ≡ false → is_done doc u ≡ true → ⊥
done_beside_a_float doc u waits done =
    not_both (has_dealt_all doc u.placed) (both_of (is_spent_at doc u.place) (has_dealt_all doc u.placed) done).1 waits

-- no column is left out that is not spared
column_left_out : {S M K : Type 0} (sp : Meaning S M K) (u : S) (spared : S → ℤ → Bool) (steps : List (Step S M)) (m : M)
    (v : S) (c : ℤ) → sp.Follow u m v c → spared v c ≡ false →
    (Contains steps (record { to = v; by = m; cost = c }) → ⊥) → AreWanted sp u spared steps → ⊥
column_left_out sp u spared steps m v c follows wanted out are = by (are.whole m v c follows)
  where
    by : Contains steps (record { to = v; by = m; cost = c }) ⊎ (spared v c ≡ true) → ⊥
    by (inl among) = out among
    by (inr is) = not_both (spared v c) is wanted
