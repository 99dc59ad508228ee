-- The columns of a pagination, seen from the end.
use Rattle.std.specs.Prelude.{ℕ, Bool, if◌then◌else◌, List, ◌++◌, reverse, map}
use Rattle.pg_plan.specs.declared.pages.PageMove.{PageMove}
use Rattle.pg_plan.specs.declared.backwards.MoveView.{MoveView}
use Rattle.pg_plan.specs.declared.backwards.ColumnsBefore.{ColumnsBefore}
use Rattle.pg_plan.specs.Order.{columns_of, page_moves}

-- the counts of a page's first column, or a zero for each
abbrev pub wide_of : Bool → List ℕ → List ℕ
wide_of is_first counts = map (λ (n : ℕ). if is_first then n else 0) counts

-- what is seen of a column, as a move
abbrev pub move_of : MoveView → PageMove
move_of seen = record { column = seen.column.now; run = seen.run; wide = wide_of seen.is_first seen.wide.now }

-- the columns of a front, from the last to the first
abbrev pub moves_left : ColumnsBefore → List PageMove
moves_left front =
    reverse (page_moves (record { run = front.run; wide = front.wide.now; columns = front.columns.now }) front.columns.now) ++ columns_of (reverse front.pages.now)
