-- Beginnings of paginations, the states that they leave, and how columns follow.
use Rattle.std.proofs.Common.{◌≡◌, refl, pos, true, false, ℕ, List, [], ◌∷◌, None}
use Rattle.pg_plan.specs.declared.states.State.{State}
use Rattle.pg_plan.specs.declared.states.Side.TheVariants.{S}
use Rattle.pg_rules.specs.Follow.{Follow}
use Rattle.pg_rules.specs.Legal.{document}
use Rattle.pg_rules.specs.NoWorse.{is_no_worse}
use Rattle.pg_rules.specs.States.{state_of, prefix_breach}
use Rattle.pg_rules.proofs.Examples.{at, text_column, two_floats, floats_style, floats_begun, wide_float, wide_style, wide_begun, wide_state}

-- the text alone is a beginning, though no float is placed
floats_begin : prefix_breach two_floats (floats_style (0 ∷ 100 ∷ 400 ∷ [])) floats_begun ≡ None
unfolding prefix_breach
floats_begin = refl

abbrev pub floats_state : List ℕ → State
floats_state ages = record { place = at 5; column = 1; side = S; run = None; wide = None; fitness = None; placed = 0 ∷ []; ages = ages }

-- both floats wait, and will have waited one page on the next
floats_state_is : state_of two_floats (floats_style (0 ∷ 100 ∷ 400 ∷ [])) floats_begun ≡ floats_state (1 ∷ 1 ∷ [])
unfolding state_of
floats_state_is = refl

-- in a page's second column the run is fixed
wide_state_is : state_of wide_float wide_style wide_begun ≡ wide_state
unfolding state_of
wide_state_is = refl

-- the second column, in which the wide float is called, ends the page
wide_follow :
    Follow (document wide_float wide_style) wide_state (record { column = text_column (at 3) (at 8) (0 ∷ []); run = 0; wide = 0 ∷ [] })
    (record { place = at 8; column = 1; side = S; run = None; wide = None; fitness = None; placed = 0 ∷ []; ages = 1 ∷ [] }) (pos 100)
wide_follow = record {
  starts = refl;
  stands = record {
    takes_run = refl;
    wide = refl;
    deals = refl;
    callouts = refl;
    barriers = refl;
    rules = record { fits = refl; well_formed = refl; tolerable = refl; passes = refl; room = refl; counts = refl; note_limits = refl; looseness = refl };
  };
  turns = refl;
  pays = refl;
  leads = refl;
}

-- the state whose first float has waited less is no worse, and not the other way round
younger_is_no_worse : is_no_worse (floats_state (0 ∷ 1 ∷ [])) (floats_state (1 ∷ 1 ∷ [])) ≡ true
younger_is_no_worse = refl

older_is_worse : is_no_worse (floats_state (1 ∷ 1 ∷ [])) (floats_state (0 ∷ 1 ∷ [])) ≡ false
older_is_worse = refl
