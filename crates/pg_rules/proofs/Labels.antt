-- Labels that cover a state, and labels that are closed.
use Rattle.std.proofs.Common.{◌≡◌, ◌<◌, inl, refl, sym, subst, true, false, Bool, ℕ, zero, suc, List, [], ◌∷◌, length, Some, None, arith}
use Rattle.std.specs.Option.{option_map_or}
use Rattle.std.proofs.lemmas.Int.{ints}
use Rattle.std.specs.Prelude.{◌==◌, ◌&&◌, Contains, slice_index_or, ℤ, pos, if◌then◌else◌}
use Rattle.pg_lemmas.proofs.Bools.{both_of}
use Rattle.pg_list.proofs.Places.{same_place}
use Rattle.pg_list.specs.Flat.{is_same_place}
use Rattle.pg_list.specs.GalleyValue.{GalleyValue}
use Rattle.pg_list.specs.Places.{place}
use Rattle.pg_list.specs.declared.galley.Place.{Place}
use Rattle.pg_plan.specs.declared.pages.PageMove.{PageMove}
use Rattle.pg_plan.specs.declared.states.Label.{Label}
use Rattle.pg_plan.specs.declared.states.State.{State}
use Rattle.pg_rules.specs.Closed.{Closed, Covers}
use Rattle.pg_rules.specs.ColumnRules.{does_fit, is_well_formed}
use Rattle.pg_rules.specs.Follow.{Follow, context_in}
use Rattle.pg_rules.specs.IsState.{IsState}
use Rattle.pg_rules.specs.Legal.{document}
use Rattle.pg_rules.specs.Room.{Document}
use Rattle.pg_rules.specs.States.{state_at}
use Rattle.pg_rules.proofs.Beginnings.{floats_state}
use Rattle.pg_rules.proofs.Examples.{plain, points}

abbrev pub younger : Label
younger = record { state = floats_state (0 ∷ 1 ∷ []); cost = pos 100 }

-- a label covers a state with an older float, at its own cost and at more
younger_covers : Covers (younger ∷ []) (floats_state (1 ∷ 1 ∷ [])) (pos 100)
younger_covers = record { label = younger; listed = (0, omega arith, refl); no_worse = refl; no_dearer = omega (arith, ints) }

-- ---- a galley without blocks

abbrev pub nothing : GalleyValue
nothing = record { width = points 345; blocks = [] }

abbrev pub of_nothing : Document
of_nothing = document nothing (plain 58)

abbrev pub beginning : Label
beginning = record { state = state_at of_nothing []; cost = pos 0 }

abbrev pub some_move : Place → List ℕ → List ℕ → List ℕ → ℕ → List ℕ → PageMove
some_move to top bottom picks run wide = record {
  column = record { from = place 0 0 0; to = to; top = top; bottom = bottom; picks = picks };
  run = run;
  wide = wide;
}

only_there : (b : Bool) (f : ℕ → Bool) → option_map_or f (if b then Some 0 else None) false ≡ true → b ≡ true
only_there true f h = refl
only_there false f h = cc

-- no column has text there, and none has a float
no_column : (to : Place) (top bottom picks : List ℕ) (run : ℕ) (wide : List ℕ) →
    does_fit (context_in of_nothing beginning.state (some_move to top bottom picks run wide)) ≡ true →
    is_well_formed (context_in of_nothing beginning.state (some_move to top bottom picks run wide)) ≡ true → ⊥
no_column to top bottom picks run wide fits formed =
    let here : to ≡ place 0 0 0 = same_place to (place 0 0 0) (only_there (is_same_place to (place 0 0 0)) _ fits) in
    let none = subst (λ (at : Place). is_well_formed (context_in of_nothing beginning.state
    (some_move at top bottom picks run wide)) ≡ true) here formed in
    let never : false ≡ true = (both_of (length picks == 0) false none).1 in
    absurd cc

no_move : (m : PageMove) (v : State) (c : ℤ) → Follow of_nothing beginning.state m v c → ⊥
no_move m v c h =
    let starts : place 0 0 0 ≡ m.column.from = sym (same_place m.column.from (place 0 0 0) h.starts) in
    by (place 0 0 0) starts m.column.to m.column.top m.column.bottom m.column.picks m.run m.wide
    h.stands.rules.fits h.stands.rules.well_formed
  where
    by : (at : Place) → place 0 0 0 ≡ m.column.from → (to : Place) (top bottom picks : List ℕ) (run : ℕ)
        (wide : List ℕ) → does_fit (context_in of_nothing beginning.state (record {
          column = record { from = m.column.from; to = to; top = top; bottom = bottom; picks = picks };
          run = run;
          wide = wide;
        })) ≡ true → is_well_formed (context_in of_nothing beginning.state (record {
          column = record { from = m.column.from; to = to; top = top; bottom = bottom; picks = picks };
          run = run;
          wide = wide;
        })) ≡ true → ⊥
    by at starts = subst (λ (from : Place). (to : Place) (top bottom picks : List ℕ) (run : ℕ) (wide : List ℕ) →
        does_fit (context_in of_nothing beginning.state (record {
          column = record { from = from; to = to; top = top; bottom = bottom; picks = picks };
          run = run;
          wide = wide;
        })) ≡ true → is_well_formed (context_in of_nothing beginning.state (record {
          column = record { from = from; to = to; top = top; bottom = bottom; picks = picks };
          run = run;
          wide = wide;
        })) ≡ true → ⊥) starts no_column

-- one label among one
only_one : (label : Label) → Contains (beginning ∷ []) label → beginning ≡ label
only_one label (k, l, e) = by k l e
  where
    by : (k : ℕ) → k < 1 → slice_index_or (beginning ∷ []) k label ≡ label → beginning ≡ label
    by zero l e = e
    by (suc k) l e = absurd (omega arith)

-- so nothing follows its start, and that alone is closed
nothing_closed : Closed nothing (plain 58) (beginning ∷ [])
nothing_closed = record {
  states = λ label c. subst (λ (l : Label). IsState of_nothing l.state) (only_one label c) own;
  start = record { label = beginning; listed = (0, omega arith, refl); no_worse = refl; no_dearer = omega (arith, ints) };
  steps = λ label m v cost c h. absurd (no_move m v cost
      (subst (λ (l : Label). Follow of_nothing l.state m v cost) (sym (only_one label c)) h));
}
  where
    own : IsState of_nothing beginning.state
    own = record {
      place = record { within = inl refl; front = λ e. refl };
      column = (omega arith, (omega arith, omega arith));
      side = refl;
      run = refl;
      run_free = refl;
      wide = refl;
      fitness = refl;
      placed = refl;
      called = refl;
      waiting = refl;
      young = refl;
    }
