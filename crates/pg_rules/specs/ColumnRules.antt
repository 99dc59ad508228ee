-- The rules on one column in its context.
use Rattle.std.specs.Prelude.{ℕ, Bool, ◌==◌, ◌&&◌, ◌||◌, not, nat_lt, nat_le, if◌then◌else◌, List, length, take, ℤ, ◌+ℤ◌, ◌-ℤ◌, int_le, int_lt, is_some, unsigned_abs, unwrap_or}
use Rattle.std.specs.List.{list_all, list_any}
use Rattle.pg_list.specs.declared.variants.Variant.{Variant}
use Rattle.pg_list.specs.declared.item.Item.{Item}
use Rattle.pg_list.specs.Shapes.{is_box}
use Rattle.pg_list.specs.Badness.{is_over, fill_badness, has_infinite}
use Rattle.pg_list.specs.Break.{break_penalty, is_forced, is_spent, passes_between}
use Rattle.pg_list.specs.Flat.{fronts, picked_variants, blocks_at}
use Rattle.pg_rules.specs.Floats.{float_count, float_numbers, floats, gap_stretch, gap_shrink, has_all}
use Rattle.pg_rules.specs.Room.{ColumnContext, is_text, flat_items_of, items_of, at_size, before_bottom, is_top_allowed, is_bottom_allowed, top_height, full_height, wide_height, room, tallest_room, give, notes, smallest_notes, are_notes_within_limits}
use Rattle.pg_list.specs.declared.item.Order.TheVariants.{Finite}
use Rattle.pg_list.specs.Totals.{trimmed, total, stretch, shrink}

-- ---- the first n items of the column

-- the text that the first n items make: without the discardable ones in front of its first box
abbrev pub segment : ColumnContext → ℕ → List Item
segment it n = trimmed (take n (items_of it))

-- the natural height of that text, its hanging depth not counted up to the limit
abbrev pub text_total : ColumnContext → ℕ → ℤ
text_total it n = total it.document.style.topskip it.document.style.maxdepth (segment it n)

-- what that text may fill: the room less the notes that it holds
abbrev pub text_goal : ColumnContext → ℕ → ℤ
text_goal it n = room it -ℤ notes it.document.style (segment it n)

-- what that text may fill where all gaps around it are shrunk
abbrev pub tallest_goal : ColumnContext → ℕ → ℤ
tallest_goal it n = tallest_room it -ℤ smallest_notes it.document.style (segment it n)

-- that text is higher than that by more than it can shrink
abbrev pub text_is_over : ColumnContext → ℕ → Bool
text_is_over it n = is_over (text_total it n) (shrink (segment it n)) (tallest_goal it n)

-- what fills its goal where it is short: the foot alone where the style is ragged
abbrev pub text_stretch : ColumnContext → ℕ → ℤ
text_stretch it n = unwrap_or it.document.style.ragged (stretch Finite (segment it n) +ℤ give gap_stretch it (segment it n))

-- what fits it into its goal where it is long
abbrev pub text_shrink : ColumnContext → ℕ → ℤ
text_shrink it n = shrink (segment it n) +ℤ give gap_shrink it (segment it n)

-- how badly that text fills its goal
abbrev pub text_badness : ColumnContext → ℕ → ℕ
text_badness it n =
    fill_badness (is_spent (items_of it) n) (text_goal it n) (text_total it n) (has_infinite (segment it n))
    (text_stretch it n) (text_shrink it n)

-- very loose 0, loose 1, decent 2, tight 3
abbrev pub fitness_by : ℤ → ℤ → ℕ → ℕ
fitness_by total goal badness =
    if int_lt total goal then (if nat_lt 99 badness then 0 else (if nat_lt 12 badness then 1 else 2))
    else (if int_lt goal total && nat_lt 12 badness then 3 else 2)

-- how loose or tight that text is set; in version 1 every text is decent
abbrev pub text_fitness : ColumnContext → ℕ → ℕ
text_fitness it n =
    if it.document.style.version == 1 then 2 else fitness_by (text_total it n) (text_goal it n) (text_badness it n)

-- the variants that the column's picks name
abbrev pub column_variants : ColumnContext → List Variant
column_variants it = picked_variants (blocks_at it.document.blocks it.column.from) it.column.picks

-- ---- the rules

-- a part of rule 2, chain of columns: the column ends at a place that follows its start, and its picks name a variant of each choice whose front it meets
abbrev pub does_fit : ColumnContext → Bool
does_fit it = at_size it (λ n. (fronts (flat_items_of it) n == length it.column.picks)
    && (length (column_variants it) == length it.column.picks))

-- a column without text and without floats of its own, on a page with a wide float
abbrev pub is_idle : ColumnContext → Bool
is_idle it =
    (float_count it.document.style it.column.top == 0) && (float_count it.document.style it.column.bottom == 0)
    && is_some it.wide

-- rule 3, shape of a column: a text has a box and ends at a break; a column without text has floats, or stands below wide floats
abbrev pub is_well_formed : ColumnContext → Bool
is_well_formed it =
    if is_text it then at_size it (λ n. list_any is_box (take n (items_of it)) && is_some (break_penalty (items_of it) n))
    else ((length it.column.picks == 0)
    && ((nat_lt 0 (float_count it.document.style it.column.top)
    && (float_count it.document.style it.column.bottom == 0)) || is_idle it))

-- rule 4, tolerance: a text is not over, and no worse than the tolerance unless its end is forced
abbrev pub is_tolerable : ColumnContext → Bool
is_tolerable it = not (is_text it) || at_size it (λ n. not (text_is_over it n)
    && (is_forced (items_of it) n || nat_le (text_badness it n) it.document.style.tolerance))

-- rule 5, break inside: a text passes no break that is forced or over
abbrev pub passes_breaks : ColumnContext → Bool
passes_breaks it = not (is_text it) || at_size it (passes_between (items_of it) (text_is_over it))

-- rule 6, least text, float column height: a text has its least room, and floats without text are not higher than
-- the column
abbrev pub has_room : ColumnContext → Bool
has_room it =
    if is_text it then int_le it.document.style.min_text (room it)
    else int_le ((wide_height it +ℤ top_height it)
    -ℤ (if float_count it.document.style it.column.top == 0 then it.document.style.wide.gap.size
    else it.document.style.top.gap.size)) (full_height it)

-- rule 7, counts of areas: a count for each class at the top and at the bottom, of floats that may stand there,
-- and not too many
abbrev pub has_counts : ColumnContext → Bool
has_counts it =
    (length it.column.top == length (float_numbers it.document.style))
    && (length it.column.bottom == length (float_numbers it.document.style)) && is_top_allowed it
    && is_bottom_allowed it

-- a part of rule 8: at the top and at the bottom no class deals out a float that it has not
abbrev pub has_dealable : ColumnContext → Bool
has_dealable it = has_all (floats it.document.blocks it.document.style) it.before it.column.top
    && has_all (floats it.document.blocks it.document.style) (before_bottom it) it.column.bottom

-- rule 11, limit of notes: the notes of each class in a text are within its limit
abbrev pub keeps_note_limits : ColumnContext → Bool
keeps_note_limits it = not (is_text it) || at_size it (λ n. are_notes_within_limits it.document.style (segment it n))

-- rule 13, looseness: each picked variant is within the greatest looseness
abbrev pub keeps_looseness : ColumnContext → Bool
keeps_looseness it =
    list_all (λ (variant : Variant). nat_le (unsigned_abs variant.looseness) it.document.style.max_looseness)
    (column_variants it)
