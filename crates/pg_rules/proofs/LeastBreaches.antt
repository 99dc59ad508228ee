-- For each rule a pagination that breaks it and no rule before it, and the first column at which it does.
use Rattle.std.proofs.Common.{◌≡◌, refl, pos, [], ◌∷◌, None, Some}
use Rattle.pg_list.specs.Barrier.{barrier_body}
use Rattle.pg_list.specs.declared.item.Item.TheVariants.{Carry}
use Rattle.pg_list.specs.declared.blocks.Block.TheVariants.{Choice}
use Rattle.pg_style.specs.declared.style.First.TheVariants.{Left}
use Rattle.pg_rules.specs.Legal.{breach}
use Rattle.pg_rules.proofs.Examples.{points, line, plain, galley, at, text_column, floats_at, page, pages, two_pages, ten_lines, forced, one_note, note_style, two_floats, floats_style, floats_plan, floats_begun, barrier_behind_eject, barrier_before_eject, cut_at, float_between, tied_lines, runs_style, runs_plan, one_choice, choice_style, choice_plan}

-- 1, full pages: a page without a column
full_pages : breach ten_lines (plain 58) (pages (page [] [] ∷ [])) ≡ Some (1, 1)
unfolding breach
full_pages = refl

-- 2, chain of columns: the second starts one item late
chain_of_columns : breach ten_lines (plain 58) (pages (page [] (text_column (at 0) (at 9) [] ∷ []) ∷ page [] (text_column (at 10) (at 19) [] ∷ []) ∷ [])) ≡ Some (2, 2)
unfolding breach
chain_of_columns = refl

-- no column stands where something is left
chain_end : breach (galley (Carry [] ∷ [])) (plain 58) (pages []) ≡ Some (2, 0)
unfolding breach
chain_end = refl

-- a pick that names no variant, though another choice follows
chain_picks : breach (record { width = points 345; blocks = Choice (record { looseness = pos 0; demerits = 0; items = line ∷ [] } ∷ []) ∷ Choice (record { looseness = pos 0; demerits = 0; items = line ∷ [] } ∷ []) ∷ [] })
    (plain 58) (pages (page [] (record { from = at 0; to = at 2; top = []; bottom = []; picks = 9 ∷ [] } ∷ []) ∷ [])) ≡ Some (2, 1)
unfolding breach
chain_picks = refl

-- 3, shape of a column: it ends at a line, which is no break
shape_of_a_column : breach ten_lines (plain 58) (two_pages 2 19) ≡ Some (3, 1)
unfolding breach
shape_of_a_column = refl

-- 4, tolerance: six lines are over
tolerance : breach ten_lines (plain 58) (two_pages 11 19) ≡ Some (4, 1)
unfolding breach
tolerance = refl

-- 5, break inside: a forced break is passed
break_inside : breach forced (plain 58) (pages (page [] (text_column (at 0) (at 3) [] ∷ []) ∷ [])) ≡ Some (5, 1)
unfolding breach
break_inside = refl

-- 6, least text: the page is lower than it must be
least_text : breach ten_lines (record (plain 58) { min_text = points 59 }) (two_pages 9 19) ≡ Some (6, 1)
unfolding breach
least_text = refl

-- 7, counts of areas: the second column counts a class that the style has not
counts_of_areas : breach ten_lines (plain 58) (pages (page [] (text_column (at 0) (at 9) [] ∷ []) ∷ page [] (text_column (at 9) (at 19) (0 ∷ []) ∷ []) ∷ [])) ≡ Some (7, 2)
unfolding breach
counts_of_areas = refl

-- 8, every float once: two are left
every_float_once : breach two_floats (floats_style (0 ∷ 100 ∷ 400 ∷ [])) floats_begun ≡ Some (8, 1)
unfolding breach
every_float_once = refl

-- 9, callout before float: the first float stands before all text
callout_before_float : breach two_floats (floats_style (0 ∷ 100 ∷ 400 ∷ []))
    (pages (page (0 ∷ []) (floats_at (at 0) 1 ∷ []) ∷ page (0 ∷ []) (text_column (at 0) (at 5) (0 ∷ []) ∷ []) ∷ page (0 ∷ []) (floats_at (at 5) 1 ∷ []) ∷ [])) ≡ Some (9, 1)
unfolding breach
callout_before_float = refl

-- 10, distance of a float: the second is two pages late
distance_of_a_float : breach two_floats (floats_style (0 ∷ 100 ∷ [])) floats_plan ≡ Some (10, 3)
unfolding breach
distance_of_a_float = refl

-- 11, limit of notes: the one note is too large
limit_of_notes : breach one_note (note_style 8) (two_pages 7 10) ≡ Some (11, 2)
unfolding breach
limit_of_notes = refl

-- 12, runs and spreads: the right page has another run than the left
runs_and_spreads : breach tied_lines (runs_style Left) (runs_plan 0) ≡ Some (12, 2)
unfolding breach
runs_and_spreads = refl

-- 13, looseness: the variant is longer than the style lets in
looseness : breach one_choice (choice_style 0) choice_plan ≡ Some (13, 1)
unfolding breach
looseness = refl

-- 14, barriers: the float stands above the text that begins behind the barrier
float_behind_a_barrier : breach barrier_behind_eject (floats_style (0 ∷ 100 ∷ 400 ∷ [])) (cut_at 2 0 1) ≡ Some (14, 2)
unfolding breach barrier_body
float_behind_a_barrier = refl

-- the text ends behind the barrier, and the float waits
float_passed_by_a_barrier : breach barrier_before_eject (floats_style (0 ∷ 100 ∷ 400 ∷ [])) (cut_at 3 0 1) ≡ Some (14, 1)
unfolding breach barrier_body
float_passed_by_a_barrier = refl

-- both barriers are kept where the float stands before, or with the text that ends behind
float_before_a_barrier : breach barrier_behind_eject (floats_style (0 ∷ 100 ∷ 400 ∷ [])) float_between ≡ None
unfolding breach barrier_body
float_before_a_barrier = refl

float_with_a_barrier : breach barrier_before_eject (floats_style (0 ∷ 100 ∷ 400 ∷ [])) (cut_at 3 1 0) ≡ None
unfolding breach barrier_body
float_with_a_barrier = refl
