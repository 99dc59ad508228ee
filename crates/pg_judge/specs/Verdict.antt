-- The least rule broken so far, column by column.
use Rattle.std.specs.Prelude.{ℕ, ◌+◌, Bool, true, false, ◌&&◌, nat_lt, if◌then◌else◌, List, [], ◌∷◌, ◌++◌, length, Option, Some, None}
use Rattle.pg_plan.specs.declared.pages.PageMove.{PageMove}
use Rattle.pg_rules.specs.ColumnRules.{is_well_formed, is_tolerable, passes_breaks, has_room, has_counts, keeps_note_limits, keeps_looseness}
use Rattle.pg_rules.specs.History.{next_column, next_run, placed_of, context}
use Rattle.pg_rules.specs.Legal.{deals_floats, ends_spent, has_callouts, has_dealt_all, has_run, has_wide_counts, is_chained, is_near, keeps_barriers}
use Rattle.pg_rules.specs.Room.{Document}

-- the number of the first test that fails, where they are numbered from here
abbrev pub first_false : ℕ → List Bool → Option ℕ
first_false rule [] = None
first_false rule (true ∷ tests) = first_false (rule + 1) tests
first_false rule (false ∷ tests) = Some rule

-- rules 2 to 13 on a column behind others
abbrev pub most_tests : Document → PageMove → List PageMove → List Bool
most_tests doc m ms =
    is_chained doc m ms
    ∷ is_well_formed (context doc m ms)
    ∷ is_tolerable (context doc m ms)
    ∷ passes_breaks (context doc m ms)
    ∷ has_room (context doc m ms)
    ∷ (has_counts (context doc m ms) && has_wide_counts doc (next_column doc.style ms) m)
    ∷ deals_floats doc (placed_of doc.style ms) m (context doc m ms)
    ∷ has_callouts doc (placed_of doc.style ms) m
    ∷ is_near doc m ms
    ∷ keeps_note_limits (context doc m ms)
    ∷ has_run doc.style (next_run doc.style ms) m
    ∷ keeps_looseness (context doc m ms)
    ∷ []

-- rules 2 to 14
abbrev pub tests_on : Document → PageMove → List PageMove → List Bool
tests_on doc m ms = most_tests doc m ms ++ keeps_barriers doc (placed_of doc.style ms) m ∷ []

-- rules 2 to 14 on what stands behind the last column
abbrev pub tests_at_end : Document → List PageMove → List Bool
tests_at_end doc ms =
    ends_spent doc ms ∷ true ∷ true ∷ true ∷ true ∷ true ∷ has_dealt_all doc (placed_of doc.style ms)
    ∷ true ∷ true ∷ true ∷ true ∷ true ∷ true ∷ []

-- a rule broken before, or one that this column breaks, if it is less
abbrev pub lesser : Option (ℕ × ℕ) → Option ℕ → ℕ → Option (ℕ × ℕ)
lesser None None column = None
lesser None (Some rule) column = Some (rule, column)
lesser (Some (least, at)) None column = Some (least, at)
lesser (Some (least, at)) (Some rule) column = if nat_lt rule least then Some (rule, column) else Some (least, at)

-- the least of rules 2 to 14 that columns break, and the first of them that does
abbrev pub broken_by : Document → List PageMove → Option (ℕ × ℕ)
broken_by doc [] = None
broken_by doc (m ∷ ms) = lesser (broken_by doc ms) (first_false 2 (tests_on doc m ms)) (length ms + 1)

-- the same with what stands behind the last column
abbrev pub broken_at_end : Document → List PageMove → Option (ℕ × ℕ)
broken_at_end doc ms = lesser (broken_by doc ms) (first_false 2 (tests_at_end doc ms)) (length ms)

-- a page at fault, or the least rule behind
abbrev pub behind_pages : Option ℕ → Option (ℕ × ℕ) → Option (ℕ × ℕ)
behind_pages (Some column) behind = Some (1, column)
behind_pages None behind = behind
