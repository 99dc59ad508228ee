-- The parts of the cost of a pagination.
use Rattle.std.specs.Prelude.{◌≡◌, ℕ, if◌then◌else◌, List, [], ◌∷◌, ℤ, pos, ◌+◌, ◌+ℤ◌, ◌-ℤ◌, ◌==◌}
use Rattle.std.specs.Option.{option_map_or}
use Rattle.pg_list.specs.Whole.{square, whole_sum_by}
use Rattle.pg_plan.specs.declared.pages.PageMove.{PageMove}
use Rattle.pg_rules.specs.ColumnRules.{text_badness}
use Rattle.pg_rules.specs.Cost.{cost_of, text_demerits, pick_demerits, run_demerits, float_demerits, fitness_demerits}
use Rattle.pg_rules.specs.History.{context, fitness_of, placed_of, next_column}
use Rattle.pg_rules.specs.Legal.{added, distance}
use Rattle.pg_rules.specs.Room.{Document, ColumnContext, is_text, size_of}
use Rattle.pg_parts.specs.declared.part.Part.{Part}
use Rattle.pg_parts.specs.declared.part.Part.TheVariants.{Line, Badness, Penalties, Empty, Picks, Runs, Floats, Fitness}

-- what a column has for its text, and nothing where it has none
abbrev pub of_text : ColumnContext → (ℕ → ℤ) → ℤ
of_text it part = if is_text it then option_map_or part (size_of it) (pos 0) else pos 0

-- what a text pays for being a column: the square of line
abbrev pub line_part : ColumnContext → ℤ
line_part it = of_text it (λ n. square (pos it.document.style.line))

-- what it pays for its badness, above that
abbrev pub badness_part : ColumnContext → ℤ
badness_part it =
    of_text it (λ n. square (pos (it.document.style.line + text_badness it n)) -ℤ square (pos it.document.style.line))

-- what the penalty at its end adds, or takes off
abbrev pub penalty_part : ColumnContext → ℤ
penalty_part it =
    of_text it (λ n. text_demerits it n -ℤ square (pos (it.document.style.line + text_badness it n)))

-- what a column without text pays
abbrev pub empty_part : ColumnContext → ℤ
empty_part it = if is_text it then pos 0 else pos it.document.style.float_column.demerits

-- what the run of a page pays, at its first column
abbrev pub run_part : Document → PageMove → List PageMove → ℤ
run_part doc m ms = if next_column doc.style ms == 1 then run_demerits doc.style m.run else pos 0

-- what the floats pay that a column adds
abbrev pub float_part : Document → PageMove → List PageMove → ℤ
float_part doc m ms = float_demerits doc.style (distance doc m ms) (added doc (placed_of doc.style ms) m)

-- what a text pays for differing from the one before
abbrev pub fitness_part : Document → PageMove → List PageMove → ℤ
fitness_part doc m ms = fitness_demerits (fitness_of doc ms) (context doc m ms)

-- what a column adds to a part, behind those before it
abbrev pub part_of : Document → PageMove → List PageMove → Part → ℤ
part_of doc m ms Line = line_part (context doc m ms)
part_of doc m ms Badness = badness_part (context doc m ms)
part_of doc m ms Penalties = penalty_part (context doc m ms)
part_of doc m ms Empty = empty_part (context doc m ms)
part_of doc m ms Picks = pick_demerits (context doc m ms)
part_of doc m ms Runs = run_part doc m ms
part_of doc m ms Floats = float_part doc m ms
part_of doc m ms Fitness = fitness_part doc m ms

-- what all columns add to a part
abbrev pub part_sum : Document → List PageMove → Part → ℤ
part_sum doc [] part = pos 0
part_sum doc (m ∷ ms) part = part_sum doc ms part +ℤ part_of doc m ms part

-- all parts
abbrev pub all_parts : List Part
all_parts = Line ∷ Badness ∷ Penalties ∷ Empty ∷ Picks ∷ Runs ∷ Floats ∷ Fitness ∷ []

-- the parts add up to the cost
abbrev pub PartsAddUp : Type 0
PartsAddUp = (doc : Document) (ms : List PageMove) → cost_of doc ms ≡ whole_sum_by (part_sum doc ms) all_parts
