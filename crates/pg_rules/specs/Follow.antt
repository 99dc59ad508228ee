-- How a column may follow a state.
use Rattle.std.specs.Prelude.{◌≡◌, ℕ, ◌+◌, Bool, true, ◌==◌, ◌&&◌, nat_lt, if◌then◌else◌, List, [], ◌∷◌, length, map, Option, Some, None, ℤ}
use Rattle.std.specs.List.{list_all}
use Rattle.pg_plan.specs.declared.pages.PageMove.{PageMove}
use Rattle.pg_plan.specs.declared.states.Side.{Side}
use Rattle.pg_plan.specs.declared.states.Side.TheVariants.{L, R, S}
use Rattle.pg_plan.specs.declared.states.State.{State}
use Rattle.pg_style.specs.Values.{StyleValue}
use Rattle.pg_rules.specs.ColumnRules.{does_fit, is_well_formed, is_tolerable, passes_breaks, has_room, has_counts, keeps_note_limits, keeps_looseness}
use Rattle.pg_rules.specs.Cost.{column_cost}
use Rattle.pg_list.specs.Flat.{is_same_place}
use Rattle.pg_rules.specs.Floats.{called, floats_between}
use Rattle.pg_rules.specs.History.{context_with, made_wide, placed_after, is_called, fitness_after}
use Rattle.pg_rules.specs.Legal.{has_wide_counts, deals_floats, has_callouts, has_run, keeps_barriers, added}
use Rattle.pg_rules.specs.Floats.{distance_table}
use Rattle.pg_rules.specs.Room.{Document, ColumnContext}

-- the height of the wide area of the page
abbrev pub wide_in : Document → State → PageMove → Option ℤ
wide_in doc u m = if u.column == 1 then made_wide doc u.placed m.wide else u.wide

-- the column in the context that the state gives it
abbrev pub context_in : Document → State → PageMove → ColumnContext
context_in doc u m = context_with doc (wide_in doc u m) u.placed m

-- the floats that wait
abbrev pub waiting_in : Document → State → List (ℕ × ℕ)
waiting_in doc u = floats_between doc.style u.placed (called doc.blocks doc.style u.place)

-- a float is known by its slot and its number
abbrev pub is_same_float : ℕ × ℕ → ℕ × ℕ → Bool
is_same_float a b = (a.0 == b.0) && (a.1 == b.1)

-- the number that stands where a float stands in a list
abbrev pub age_among : List (ℕ × ℕ) → List ℕ → ℕ × ℕ → ℕ
age_among [] ages float = 0
age_among (other ∷ floats) [] float = 0
age_among (other ∷ floats) (age ∷ ages) float = if is_same_float other float then age else age_among floats ages float

-- the age of a float in a state, and 0 for one that is called later
abbrev pub age_in : Document → State → ℕ × ℕ → ℕ
age_in doc u float = if is_called doc u.place float then age_among (waiting_in doc u) u.ages float else 0

-- the column is the last that its page may have
abbrev pub fills_page : StyleValue → State → Bool
fills_page style u = u.column == style.columns

-- the side of the next page
abbrev pub other_side : Side → Side
other_side L = R
other_side R = L
other_side S = S

-- a left page hands its run on to the right page of its spread
abbrev pub keeps_run : Side → ℕ → Option ℕ
keeps_run L run = Some run
keeps_run _ run = None

-- the floats that wait behind the column
abbrev pub waiting_behind : Document → State → PageMove → List (ℕ × ℕ)
waiting_behind doc u m = floats_between doc.style (placed_after doc.style u.placed m) (called doc.blocks doc.style m.column.to)

-- how many pages end with the column
abbrev pub turns : StyleValue → State → ℕ
turns style u = if fills_page style u then 1 else 0

-- the state behind the column
abbrev pub next_state : Document → State → PageMove → State
next_state doc u m = record {
  place = m.column.to;
  column = if fills_page doc.style u then 1 else u.column + 1;
  side = if fills_page doc.style u then other_side u.side else u.side;
  run = if fills_page doc.style u then keeps_run u.side m.run else Some m.run;
  wide = if fills_page doc.style u then None else wide_in doc u m;
  fitness = fitness_after u.fitness (context_in doc u m);
  placed = placed_after doc.style u.placed m;
  ages = map (λ (float : ℕ × ℕ). age_in doc u float + turns doc.style u) (waiting_behind doc u m);
}

-- each float that still waits may wait on
abbrev pub may_turn : Document → State → PageMove → Bool
may_turn doc u m =
    list_all (λ (float : ℕ × ℕ). nat_lt (age_in doc u float + turns doc.style u)
    (length (distance_table doc.style float.0))) (waiting_behind doc u m)

-- the rules on one column
pub record KeepsColumnRules (it : ColumnContext) : Type 0 where
  pub fits : does_fit it ≡ true
  pub well_formed : is_well_formed it ≡ true
  pub tolerable : is_tolerable it ≡ true
  pub passes : passes_breaks it ≡ true
  pub room : has_room it ≡ true
  pub counts : has_counts it ≡ true
  pub note_limits : keeps_note_limits it ≡ true
  pub looseness : keeps_looseness it ≡ true

-- the column may stand on the page that must have this run, as the page's column of this number, after these floats
pub record MayStand (doc : Document) (column : ℕ) (must : Option ℕ) (placed : List ℕ) (m : PageMove)
    (it : ColumnContext) : Type 0 where
  pub takes_run : has_run doc.style must m ≡ true
  pub wide : has_wide_counts doc column m ≡ true
  pub deals : deals_floats doc placed m it ≡ true
  pub callouts : has_callouts doc placed m ≡ true
  pub barriers : keeps_barriers doc placed m ≡ true
  pub rules : KeepsColumnRules it

-- the column, with its run and wide counts, may come after the state, and gives the next at this cost
pub record Follow (doc : Document) (u : State) (m : PageMove) (v : State) (cost : ℤ) : Type 0 where
  pub starts : is_same_place m.column.from u.place ≡ true
  pub stands : MayStand doc u.column u.run u.placed m (context_in doc u m)
  pub turns : may_turn doc u m ≡ true
  pub pays : cost ≡ column_cost (context_in doc u m) u.column u.fitness (age_in doc u) (added doc u.placed m)
  pub leads : v ≡ next_state doc u m
