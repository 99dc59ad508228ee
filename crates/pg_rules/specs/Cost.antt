-- The cost of a pagination.
use Rattle.std.specs.Prelude.{ℕ, ◌+◌, ◌==◌, ◌&&◌, not, Bool, true, false, nat_le, if◌then◌else◌, List, [], ◌∷◌, Option, slice_get, slice_index, ℤ, pos, negsuc, ◌+ℤ◌, ◌-ℤ◌, int_lt, unwrap_or}
use Rattle.std.specs.Int.{int_max}
use Rattle.std.specs.Option.{option_map_or}
use Rattle.pg_list.specs.declared.variants.Variant.{Variant}
use Rattle.pg_list.specs.GalleyValue.{GalleyValue}
use Rattle.pg_plan.specs.declared.pages.PageMove.{PageMove}
use Rattle.pg_plan.specs.Order.{columns}
use Rattle.pg_plan.specs.declared.pages.Pagination.{Pagination}
use Rattle.pg_style.specs.Values.{StyleValue}
use Rattle.pg_style.specs.declared.style.Run.{Run}
use Rattle.pg_list.specs.Break.{break_penalty}
use Rattle.pg_rules.specs.ColumnRules.{text_badness, column_variants}
use Rattle.pg_rules.specs.History.{next_column, fitness_of, column_fitness, placed_of, context}
use Rattle.pg_rules.specs.Legal.{added, distance, document}
use Rattle.pg_rules.specs.Floats.{distance_table}
use Rattle.pg_rules.specs.Room.{Document, ColumnContext, is_text, items_of, size_of}
use Rattle.pg_list.specs.Whole.{whole_sum_by, square}

-- what a penalty adds: its square, with its sign; nothing where it forces
abbrev pub penalty_demerits : ℤ → ℤ
penalty_demerits (pos p) = square (pos p)
penalty_demerits (negsuc p) = if int_lt (negsuc 9999) (negsuc p) then pos 0 -ℤ square (negsuc p) else pos 0

-- a penalty below 0 that does not force
abbrev pub is_bonus : ℤ → Bool
is_bonus (pos p) = false
is_bonus (negsuc p) = int_lt (negsuc 9999) (negsuc p)

-- what badness and penalty cost a text: the square of line and badness, and what the penalty adds; in version 3 a bonus
-- is taken off badness, as far as that goes
abbrev pub break_demerits : StyleValue → ℕ → ℤ → ℤ
break_demerits style badness penalty =
    if (style.version == 3) && is_bonus penalty then square (pos style.line +ℤ int_max (pos 0) (pos badness +ℤ penalty))
    else square (pos (style.line + badness)) +ℤ penalty_demerits penalty

-- what the first n items as a text cost
abbrev pub text_demerits : ColumnContext → ℕ → ℤ
text_demerits it n = break_demerits it.document.style (text_badness it n) (unwrap_or (break_penalty (items_of it) n) (pos 0))

-- what a column costs by itself, with text or without
abbrev pub column_demerits : ColumnContext → ℤ
column_demerits it =
    if is_text it then option_map_or (text_demerits it) (size_of it) (pos 0)
    else pos it.document.style.float_column.demerits

-- what the variants that the column picks cost
abbrev pub pick_demerits : ColumnContext → ℤ
pick_demerits it = whole_sum_by (λ (variant : Variant). pos variant.demerits) (column_variants it)

-- what a page of this run costs; a run that does not exist costs nothing
abbrev pub run_demerits : StyleValue → ℕ → ℤ
run_demerits style run = option_map_or (λ (it : Run). pos it.demerits) (slice_get style.runs run) (pos 0)

-- each float pays by how long it waited
abbrev pub float_demerits : StyleValue → (ℕ × ℕ → ℕ) → List (ℕ × ℕ) → ℤ
float_demerits style wait floats =
    whole_sum_by (λ (float : ℕ × ℕ). pos (slice_index (distance_table style float.0) (wait float))) floats

-- two texts next to one another that are more than one step of fitness apart
abbrev pub differs : ℕ → ℕ → Bool
differs a b = not (nat_le a (b + 1) && nat_le b (a + 1))

-- what a text pays for differing from the last text before it
abbrev pub fitness_demerits : Option ℕ → ColumnContext → ℤ
fitness_demerits fitness it = option_map_or (λ (last : ℕ). if is_text it && differs last (column_fitness it)
    then pos it.document.style.fitness else pos 0) fitness (pos 0)

-- what a column adds, after a column with this fitness, where each float that it adds waited so long
abbrev pub column_cost : ColumnContext → ℕ → Option ℕ → (ℕ × ℕ → ℕ) → List (ℕ × ℕ) → ℤ
column_cost it column fitness wait floats =
    (column_demerits it +ℤ pick_demerits it)
    +ℤ (((if column == 1 then run_demerits it.document.style it.run else pos 0)
    +ℤ float_demerits it.document.style wait floats) +ℤ fitness_demerits fitness it)

-- what all columns add, each behind those before it
abbrev pub cost_of : Document → List PageMove → ℤ
cost_of doc [] = pos 0
cost_of doc (m ∷ ms) = cost_of doc ms
    +ℤ column_cost (context doc m ms) (next_column doc.style ms) (fitness_of doc ms) (distance doc m ms)
    (added doc (placed_of doc.style ms) m)

-- the cost of a pagination
unfoldable pub cost : GalleyValue → StyleValue → Pagination → ℤ
cost galley style plan = cost_of (document galley style) (columns plan)
