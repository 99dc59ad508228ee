-- What is left of the floats that wait at the end of a column, and what is paid for those that it places.
use Rattle.std.specs.Prelude.{◌≡◌, ℕ, ◌≤◌, ◌*◌, ◌^◌, true, false, List, Option, Some, None, pos}
use Rattle.pg_list.specs.declared.galley.Place.{Place}
use Rattle.pg_plan.specs.declared.states.State.{State}
use Rattle.pg_style.specs.Values.{StyleValue}
use Rattle.pg_rules.specs.Floats.{called}
use Rattle.pg_rules.specs.Follow.{turns}
use Rattle.pg_rules.specs.Room.{Document}
use Rattle.law_moves.specs.Ages.{ages_left, float_cost, may_wait, waits_of}
use Rattle.law_moves.specs.Listed.{may_begin}
use Rattle.pg_states.specs.Lines.{all_left, all_paid, all_young, line_in}
use Rattle.pg_states.specs.declared.classes.Classes.{Classes}
use Rattle.pg_states.specs.declared.settling.Known.{Known}
use Rattle.pg_states.specs.declared.settling.Settled.{Settled}

-- how many floats of each class are called before a state, how many of these wait, and whether a text may begin there
abbrev pub known_of : Document → State → Known
known_of doc u = record {
  called = called doc.blocks doc.style u.place;
  waits = waits_of doc u;
  may_begin = may_begin doc u;
}

-- the ages that are left, and the price, come where no float is left too old
abbrev pub Settles : Document → State → Place → List ℕ → Option Settled → Type 0
Settles doc u to after None = may_wait doc u to after (turns doc.style u) ≡ false
Settles doc u to after (Some it) = (may_wait doc u to after (turns doc.style u) ≡ true)
    × ((it.ages ≡ ages_left doc u to after (turns doc.style u))
    × ((pos it.price ≡ float_cost doc u to after) × (it.price ≤ 2 ^ 51)))

-- ---- the same from the lines of the classes

-- the floats of a class, where these ages wait
abbrev pub line_by : Classes → List ℕ → ℕ → List ℕ
line_by classes ages = line_in classes.waits.now ages classes.called.now classes.reached.now

-- no float of the first classes is left too old, and these are the ages and the price
pub record AreSettled (style : StyleValue) (line : ℕ → List ℕ) (placed after : List ℕ) (pages slots : ℕ) (ages : List ℕ)
    (price : ℕ) : Type 0 where
  pub young : all_young style line placed after pages slots ≡ true
  pub left : ages ≡ all_left line placed after pages slots
  pub paid : pos price ≡ all_paid style line placed after slots
  pub small : price ≤ 2 ^ 48 * slots

-- the ages that are left, and the price, come where no float of the first classes is left too old
abbrev pub SettlesBy : StyleValue → (ℕ → List ℕ) → List ℕ → List ℕ → ℕ → ℕ → Option Settled → Type 0
SettlesBy style line placed after pages slots None = all_young style line placed after pages slots ≡ false
SettlesBy style line placed after pages slots (Some it) =
    AreSettled style line placed after pages slots it.ages it.price
