-- Whole paginations: which are legal, and what they cost.
use Rattle.std.proofs.Common.{◌≡◌, refl, pos, [], ◌∷◌, None}
use Rattle.pg_list.specs.declared.item.Item.TheVariants.{Glue}
use Rattle.pg_list.specs.declared.item.Order.TheVariants.{Fil}
use Rattle.pg_plan.specs.Order.{plan_cmp}
use Rattle.pg_style.specs.declared.style.First.TheVariants.{Left, Single}
use Rattle.std.specs.declared.cmp.Ordering.TheVariants.{Less}
use Rattle.pg_rules.specs.Legal.{breach}
use Rattle.pg_rules.specs.Cost.{cost}
use Rattle.pg_rules.proofs.Examples.{points, gap, penalty, plain, galley, pages, two_pages, ten_lines, forced, one_note, note_style, two_floats, floats_style, floats_plan, top_or_bottom, both_style, with_float, four_ways, four_ways_style, four_ways_plan, four_ways_late, wide_float, wide_style, wide_plan, tied_lines, runs_style, runs_plan, one_choice, choice_style, choice_plan, loose_and_decent, fitness_style}

-- five lines a page
ten_lines_legal : breach ten_lines (plain 58) (two_pages 9 19) ≡ None
unfolding breach
ten_lines_legal = refl

ten_lines_cost : cost ten_lines (plain 58) (two_pages 9 19) ≡ pos 200
unfolding cost
ten_lines_cost = refl

-- where only discardable items stand there is no page
no_box_legal : breach (galley (gap ∷ penalty 150 ∷ Glue (pos 0) (points 1) Fil (pos 0) [] ∷ [])) (plain 58) (pages []) ≡ None
unfolding breach
no_box_legal = refl

-- a forced end is tolerated, at its badness
forced_legal : breach forced (record (plain 58) { tolerance = 200 }) (two_pages 1 3) ≡ None
unfolding breach
forced_legal = refl

forced_cost : cost forced (record (plain 58) { tolerance = 200 }) (two_pages 1 3) ≡ pos 100200200
unfolding cost
forced_cost = refl

-- a note takes its room
one_note_legal : breach one_note (note_style 100) (two_pages 7 10) ≡ None
unfolding breach
one_note_legal = refl

one_note_cost : cost one_note (note_style 100) (two_pages 7 10) ≡ pos 41036936
unfolding cost
one_note_cost = refl

-- floats wait, and pay for it
two_floats_legal : breach two_floats (floats_style (0 ∷ 100 ∷ 400 ∷ [])) floats_plan ≡ None
unfolding breach
two_floats_legal = refl

two_floats_cost : cost two_floats (floats_style (0 ∷ 100 ∷ 400 ∷ [])) floats_plan ≡ pos 2600
unfolding cost
two_floats_cost = refl

-- a float at the top costs as much as one at the bottom, and comes first
top_legal : breach top_or_bottom both_style (with_float 1 0) ≡ None
unfolding breach
top_legal = refl

bottom_legal : breach top_or_bottom both_style (with_float 0 1) ≡ None
unfolding breach
bottom_legal = refl

top_and_bottom_cost : cost top_or_bottom both_style (with_float 1 0) ∷ cost top_or_bottom both_style (with_float 0 1) ∷ [] ≡ pos 100 ∷ pos 100 ∷ []
unfolding cost
top_and_bottom_cost = refl

top_before_bottom : plan_cmp (with_float 1 0) (with_float 0 1) ≡ Less
top_before_bottom = refl

-- the earlier of two columns for a float comes first among equals
four_ways_legal : breach four_ways four_ways_style four_ways_plan ≡ None
unfolding breach
four_ways_legal = refl

four_ways_late_legal : breach four_ways four_ways_style four_ways_late ≡ None
unfolding breach
four_ways_late_legal = refl

four_ways_cost : cost four_ways four_ways_style four_ways_plan ∷ cost four_ways four_ways_style four_ways_late ∷ [] ≡ pos 1300 ∷ pos 1300 ∷ []
unfolding cost
four_ways_cost = refl

four_ways_first : plan_cmp four_ways_plan four_ways_late ≡ Less
four_ways_first = refl

-- a wide float that is called in a second column stands on the next page
wide_float_legal : breach wide_float wide_style wide_plan ≡ None
unfolding breach
wide_float_legal = refl

wide_float_cost : cost wide_float wide_style wide_plan ≡ pos 1250
unfolding cost
wide_float_cost = refl

-- both pages of a spread run long; single pages do as they like
spread_legal : breach tied_lines (runs_style Left) (runs_plan 1) ≡ None
unfolding breach
spread_legal = refl

spread_cost : cost tied_lines (runs_style Left) (runs_plan 1) ≡ pos 800
unfolding cost
spread_cost = refl

single_legal : breach tied_lines (runs_style Single) (runs_plan 0) ≡ None
unfolding breach
single_legal = refl

single_cost : cost tied_lines (runs_style Single) (runs_plan 0) ≡ pos 500
unfolding cost
single_cost = refl

-- the longer variant of a paragraph
one_choice_legal : breach one_choice (choice_style 1) choice_plan ≡ None
unfolding breach
one_choice_legal = refl

one_choice_cost : cost one_choice (choice_style 1) choice_plan ≡ pos 600
unfolding cost
one_choice_cost = refl

-- fitness counts in version 2 alone
fitness_cost : cost loose_and_decent (fitness_style 1 0) (two_pages 3 8) ∷ cost loose_and_decent (fitness_style 2 0) (two_pages 3 8)
    ∷ cost loose_and_decent (fitness_style 2 20000) (two_pages 3 8) ∷ cost loose_and_decent (fitness_style 2 20000) (two_pages 5 8) ∷ []
    ≡ pos 12200 ∷ pos 12200 ∷ pos 32200 ∷ pos 22700 ∷ []
unfolding cost
fitness_cost = refl

fitness_legal : breach loose_and_decent (fitness_style 2 20000) (two_pages 5 8) ≡ None
unfolding breach
fitness_legal = refl
