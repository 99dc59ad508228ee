-- Beginnings of paginations, and the state that each leaves.
use Rattle.std.specs.Prelude.{◌≡◌, ℕ, ◌-◌, Bool, ◌==◌, ◌&&◌, nat_lt, if◌then◌else◌, List, length, map, reverse, Option, None, IsTrue}
use Rattle.std.specs.List.{list_all}
use Rattle.pg_list.specs.GalleyValue.{GalleyValue}
use Rattle.pg_plan.specs.declared.pages.PageMove.{PageMove}
use Rattle.pg_plan.specs.Order.{columns}
use Rattle.pg_plan.specs.declared.pages.Pagination.{Pagination}
use Rattle.pg_plan.specs.declared.states.State.{State}
use Rattle.pg_style.specs.Values.{StyleValue}
use Rattle.pg_rules.specs.Floats.{called, floats_between}
use Rattle.pg_rules.specs.History.{next_column, next_page, next_side, next_run, place_of, placed_of, wide_of, fitness_of, calling_page}
use Rattle.pg_rules.specs.Legal.{faults_with, first_breach, document, is_spent_at, has_dealt_all}
use Rattle.pg_rules.specs.Floats.{distance_table}
use Rattle.pg_rules.specs.Room.{Document}

-- how many pages a float will have waited on the next page
abbrev pub age : Document → List PageMove → ℕ × ℕ → ℕ
age doc ms float = next_page doc.style ms - calling_page doc ms float

-- the floats that are called and not placed
abbrev pub waiting : Document → List PageMove → List (ℕ × ℕ)
waiting doc ms = floats_between doc.style (placed_of doc.style ms) (called doc.blocks doc.style (place_of ms))

-- the state behind columns: all that the columns to come depend on
abbrev pub state_at : Document → List PageMove → State
state_at doc ms = record {
  place = place_of ms;
  column = next_column doc.style ms;
  side = next_side doc.style ms;
  run = next_run doc.style ms;
  wide = if next_column doc.style ms == 1 then None else wide_of doc ms;
  fitness = fitness_of doc ms;
  placed = placed_of doc.style ms;
  ages = map (age doc ms) (waiting doc ms);
}

-- the state behind a beginning
unfoldable pub state_of : GalleyValue → StyleValue → Pagination → State
state_of galley style plan = state_at (document galley style) (columns plan)

-- no float has waited too long
abbrev pub can_wait : Document → List PageMove → Bool
can_wait doc ms =
    list_all (λ (float : ℕ × ℕ). nat_lt (age doc ms float) (length (distance_table doc.style float.0)))
    (waiting doc ms)

-- the first rule that a beginning breaks: it need not be at the galley's end, nor have placed all floats
unfoldable pub prefix_breach : GalleyValue → StyleValue → Pagination → Option (ℕ × ℕ)
prefix_breach galley style plan =
    first_breach 1 (faults_with (document galley style) (reverse plan.pages) (columns plan) None None)

-- a beginning of a pagination: it need not be at the galley's end, nor have placed all floats, but none has waited too long
pub record Prefix (galley : GalleyValue) (style : StyleValue) (plan : Pagination) : Type 0 where
  pub unbroken : prefix_breach galley style plan ≡ None
  pub can_wait : IsTrue (can_wait (document galley style) (columns plan))

-- nothing is left to do
abbrev pub is_done : Document → State → Bool
is_done doc state = is_spent_at doc state.place && has_dealt_all doc state.placed
