-- The furthest place to which beginnings of paginations come.
use Rattle.std.specs.Prelude.{◌≡◌, ◌≢◌, ◌<◌, ◌==◌, ◌+◌, if◌then◌else◌, Bool, false, Some, ℕ, ℤ, List, length, slice_get}
use Rattle.std.specs.Ordering.{is_lt}
use Rattle.std.specs.declared.cmp.Ordering.TheVariants.{Less}
use Rattle.pg_list.specs.GalleyValue.{GalleyValue}
use Rattle.pg_list.specs.declared.galley.Place.{Place}
use Rattle.pg_plan.specs.Order.{place_cmp}
use Rattle.pg_plan.specs.declared.pages.PageMove.{PageMove}
use Rattle.pg_plan.specs.declared.pages.Pagination.{Pagination}
use Rattle.pg_plan.specs.declared.states.State.{State}
use Rattle.pg_style.specs.Values.{StyleValue}
use Rattle.pg_rules.specs.Cost.{cost}
use Rattle.pg_rules.specs.Follow.{Follow}
use Rattle.pg_rules.specs.Legal.{document}
use Rattle.pg_rules.specs.States.{Prefix, state_of}
use Rattle.pg_table.specs.declared.table.Entry.{Entry}
use Rattle.pg_furthest.specs.declared.standing.Standing.{Standing}

-- a beginning of a pagination ends at this place
pub record ComesTo (galley : GalleyValue) (style : StyleValue) (at : Place) : Type 0 where
  pub plan : Pagination
  pub prefix : Prefix galley style plan
  pub ends : (state_of galley style plan).place ≡ at

-- a beginning ends there, and none behind it
pub record IsFurthest (galley : GalleyValue) (style : StyleValue) (at : Place) : Type 0 where
  pub comes : ComesTo galley style at
  pub last : (other : Place) → ComesTo galley style other → place_cmp at other ≢ Less

-- from a beginning that ends at the furthest place, no column leads behind it
abbrev pub NoneLeadsOn : GalleyValue → StyleValue → Type 0
NoneLeadsOn galley style = (at : Place) (plan : Pagination) (m : PageMove) (v : State) (c : ℤ) →
    IsFurthest galley style at → Prefix galley style plan → (state_of galley style plan).place ≡ at →
    Follow (document galley style) (state_of galley style plan) m v c → place_cmp at m.column.to ≢ Less

-- ---- among labels

-- of two labels the first stands before the second
abbrev pub is_before : Entry State PageMove → Entry State PageMove → Bool
is_before a b = is_lt (place_cmp a.state.place b.state.place)

-- none of the labels in front of this number stands behind the one at this place
abbrev pub IsLastAmong : List (Entry State PageMove) → ℕ → ℕ → Type 0
IsLastAmong labels count at = (a b : Entry State PageMove) (i : ℕ) → slice_get labels at ≡ Some a →
    slice_get labels i ≡ Some b → i < count → is_before a b ≡ false

-- the label at this place stands furthest
abbrev pub StandsFurthest : GalleyValue → StyleValue → List (Entry State PageMove) → ℕ → Type 0
StandsFurthest galley style labels at = (label : Entry State PageMove) → slice_get labels at ≡ Some label →
    IsFurthest galley style label.state.place

-- a beginning that leaves the state of a label, at its cost
pub record IsBeginning (galley : GalleyValue) (style : StyleValue) (label : Entry State PageMove)
    (plan : Pagination) : Type 0 where
  pub prefix : Prefix galley style plan
  pub state : state_of galley style plan ≡ label.state
  pub cost : cost galley style plan ≡ label.cost

-- a beginning of the label at this place
abbrev pub Begins : GalleyValue → StyleValue → List (Entry State PageMove) → ℕ → Pagination → Type 0
Begins galley style labels at plan = (label : Entry State PageMove) → slice_get labels at ≡ Some label →
    IsBeginning galley style label plan

-- ---- where they come to an end

-- the number of the page on which the next column would stand, behind so many pages
abbrev pub page_behind : ℕ → ℕ → ℕ
page_behind column pages = if column == 1 then pages + 1 else pages

-- the furthest place, with the page and the column of it that would begin there behind one of the beginnings
pub record StandsAt (galley : GalleyValue) (style : StyleValue) (standing : Standing) : Type 0 where
  pub furthest : IsFurthest galley style standing.at
  pub plan : Pagination
  pub prefix : Prefix galley style plan
  pub ends : (state_of galley style plan).place ≡ standing.at
  pub column : standing.column ≡ (state_of galley style plan).column
  pub page : standing.page ≡ page_behind standing.column (length plan.pages)
