-- The picks of a text column that are best for its end.
use Rattle.std.specs.Prelude.{◌≡◌, ◌<ℤ◌, ◌+ℤ◌, ◌⊎◌, ℕ, Bool, true, false, ◌&&◌, List, ℤ}
use Rattle.std.specs.Ordering.{is_gt}
use Rattle.pg_plan.specs.declared.pages.PageMove.{PageMove}
use Rattle.pg_plan.specs.Order.{picks_cmp}
use Rattle.pg_rules.specs.ColumnRules.{does_fit, is_well_formed, is_tolerable, passes_breaks, has_room, keeps_note_limits, keeps_looseness}
use Rattle.pg_rules.specs.Cost.{column_demerits, pick_demerits}
use Rattle.pg_rules.specs.History.{column_fitness}
use Rattle.pg_rules.specs.Room.{ColumnContext, is_text}

-- the column with other picks
abbrev pub with_picks : ColumnContext → List ℕ → ColumnContext
with_picks it picks = record it { column = record it.column { picks = picks } }

-- the move with other picks of its column
abbrev pub repicked : PageMove → List ℕ → PageMove
repicked m picks = record m { column = record m.column { picks = picks } }

-- the rules that depend on the picks
abbrev pub keeps_text : ColumnContext → Bool
keeps_text it =
    does_fit it && (is_well_formed it && (is_tolerable it
    && (passes_breaks it && (has_room it && (keeps_note_limits it && keeps_looseness it)))))

-- the part of the cost that depends on the picks
abbrev pub text_cost : ColumnContext → ℤ
text_cost it = column_demerits it +ℤ pick_demerits it

-- the picks of a text column are cheapest among those with its end and fitness, and first among equals
pub record IsLeast (it : ColumnContext) : Type 0 where
  pub least : (picks : List ℕ) → is_text it ≡ true → keeps_text (with_picks it picks) ≡ true →
      column_fitness (with_picks it picks) ≡ column_fitness it →
      (text_cost it <ℤ text_cost (with_picks it picks))
      ⊎ ((text_cost it ≡ text_cost (with_picks it picks))
      × (is_gt (picks_cmp it.column.picks picks) ≡ false))
