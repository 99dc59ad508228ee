-- What a page leaves to a column.
use Rattle.std.specs.Prelude.{◌≡◌, ◌<◌, ◌^◌, ℕ, List, Option, ℤ, is_some, nat_abs}
use Rattle.pg_list.specs.GalleyValue.{GalleyValue}
use Rattle.pg_plan.specs.declared.pages.Column.{Column}
use Rattle.pg_style.specs.Values.{StyleValue}
use Rattle.pg_rules.specs.Floats.{gap_shrink, gap_stretch}
use Rattle.pg_rules.specs.Legal.{document}
use Rattle.pg_rules.specs.Room.{ColumnContext, areas_give, bottom_height, full_height, is_bottom_allowed, is_text, is_top_allowed, top_height, wide_height}
use Rattle.pg_floats.specs.Given.{IsAreaHeight}
use Rattle.pg_judge.specs.declared.seat.Seat.{Seat}

-- heights, and what gaps give, within their ranges
pub record AreHeights (seat : Seat) : Type 0 where
  pub full : nat_abs seat.full < 2 ^ 33
  pub wide : IsAreaHeight seat.wide
  pub top : IsAreaHeight seat.top
  pub bottom : IsAreaHeight seat.bottom
  pub stretch : nat_abs seat.give.stretch < 2 ^ 40
  pub shrink : nat_abs seat.give.shrink < 2 ^ 40

-- what the rules say of a column in its context
pub record IsSeat (it : ColumnContext) (seat : Seat) : Type 0 where
  pub text : seat.is_text ≡ is_text it
  pub top_allowed : seat.is_top_allowed ≡ is_top_allowed it
  pub bottom_allowed : seat.is_bottom_allowed ≡ is_bottom_allowed it
  pub has_wide : seat.has_wide ≡ is_some it.wide
  pub full : seat.full ≡ full_height it
  pub wide : seat.wide ≡ wide_height it
  pub top : seat.top ≡ top_height it
  pub bottom : seat.bottom ≡ bottom_height it
  pub stretch : seat.give.stretch ≡ areas_give gap_stretch it
  pub shrink : seat.give.shrink ≡ areas_give gap_shrink it

-- a column on a page of a run, with a wide area and floats placed before its own
abbrev pub seated : GalleyValue → StyleValue → Column → ℕ → Option ℤ → List ℕ → ColumnContext
seated galley style column run wide placed =
    record { document = document galley style; column = column; run = run; wide = wide; before = placed }
