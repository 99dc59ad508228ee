-- Ranks of states, in order.
use Rattle.std.proofs.Common.{◌≡◌, refl, ℕ, [], ◌∷◌, Option, None, Some}
use Rattle.std.specs.Prelude.{◌+◌, ◌*◌, ◌^◌}
use Rattle.pg_plan.specs.declared.states.Side.{Side}
use Rattle.pg_plan.specs.declared.states.Side.TheVariants.{L, R, S}
use Rattle.pg_plan.specs.declared.states.State.{State}
use Rattle.pg_rules.specs.Room.{Document}
use Rattle.law_space.specs.PageSpace.{rank, side_run}

-- a state inside the variant 1 of the block 3, or at the front of the block 4
abbrev inside : ℕ → ℕ → Side → Option ℕ → State
inside index column side run = record {
  place = record { block = 3; variant = 1; index = index };
  column = column;
  side = side;
  run = run;
  wide = None;
  fitness = None;
  placed = 1 ∷ 2 ∷ [];
  ages = [];
}

abbrev at_front : State
at_front = record {
  place = record { block = 4; variant = 0; index = 0 };
  column = 2;
  side = S;
  run = Some 0;
  wide = None;
  fitness = None;
  placed = [];
  ages = [];
}

-- the greatest run of five on a right page, and none on a page without sides
last-run : side_run (inside 5 2 R (Some 4)) ≡ 11
last-run = refl

no-run : side_run (inside 5 1 S None) ≡ 0
no-run = refl

-- three floats are placed; the place stands above them
second-column : (doc : Document) →
    rank doc (inside 5 2 R (Some 4)) ≡ 2 ^ 18 * (2 ^ 20 * 25 + 5) + 96 + 11
second-column doc = refl

first-column : (doc : Document) → rank doc (inside 5 1 L None) ≡ 2 ^ 18 * (2 ^ 20 * 25 + 5) + 96 + 16
first-column doc = refl

next-block : (doc : Document) → rank doc at_front ≡ 2 ^ 18 * (2 ^ 20 * 32) + 2
next-block doc = refl
