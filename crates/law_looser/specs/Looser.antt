-- Numbers of a style that may change one way without loss: what is legal stays legal.
use Rattle.std.specs.Prelude.{ℕ, ◌≤◌, ℤ, ◌≤ℤ◌}
use Rattle.pg_list.specs.GalleyValue.{GalleyValue}
use Rattle.pg_plan.specs.declared.pages.Pagination.{Pagination}
use Rattle.pg_style.specs.Values.{StyleValue}
use Rattle.pg_rules.specs.Legal.{Legal}
use Rattle.pg_rules.specs.Ranges.{AreInRange}

-- the style with another tolerance
abbrev pub with_tolerance : StyleValue → ℕ → StyleValue
with_tolerance style tolerance = record style { tolerance = tolerance }

-- the style with another greatest looseness
abbrev pub with_looseness : StyleValue → ℕ → StyleValue
with_looseness style looseness = record style { max_looseness = looseness }

-- the style with another least height of a text
abbrev pub with_least_text : StyleValue → ℤ → StyleValue
with_least_text style least = record style { min_text = least }

-- the style with other counts of floats at the top and at the bottom of a text, and in a column without text
abbrev pub with_counts : StyleValue → ℕ → ℕ → ℕ → StyleValue
with_counts style top bottom column = record style {
  top = record { count = top; sep = style.top.sep; gap = style.top.gap };
  bottom = record { count = bottom; sep = style.bottom.sep; gap = style.bottom.gap };
  float_column = record { count = column; demerits = style.float_column.demerits };
}

-- what is legal under a style is legal under another
abbrev pub KeepsLegal : GalleyValue → StyleValue → StyleValue → Type 0
KeepsLegal galley style other = AreInRange galley style → AreInRange galley other → (plan : Pagination) →
    Legal galley style plan → Legal galley other plan

-- a greater tolerance keeps what is legal
abbrev pub MoreToleranceKeeps : GalleyValue → StyleValue → Type 0
MoreToleranceKeeps galley style = (tolerance : ℕ) → style.tolerance ≤ tolerance →
    KeepsLegal galley style (with_tolerance style tolerance)

-- so does a greater looseness
abbrev pub MoreLoosenessKeeps : GalleyValue → StyleValue → Type 0
MoreLoosenessKeeps galley style = (looseness : ℕ) → style.max_looseness ≤ looseness →
    KeepsLegal galley style (with_looseness style looseness)

-- and a lower least height of a text
abbrev pub LessTextKeeps : GalleyValue → StyleValue → Type 0
LessTextKeeps galley style = (least : ℤ) → least ≤ℤ style.min_text → KeepsLegal galley style (with_least_text style least)

-- and greater counts
abbrev pub MoreCountsKeep : GalleyValue → StyleValue → Type 0
MoreCountsKeep galley style = (top bottom column : ℕ) → style.top.count ≤ top → style.bottom.count ≤ bottom →
    style.float_column.count ≤ column → KeepsLegal galley style (with_counts style top bottom column)
