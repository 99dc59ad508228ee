-- Gaps that give, ragged texts and bonuses: each kept just, and broken just.
use Rattle.std.proofs.Common.{◌≡◌, refl, arith, ℕ, ℤ, pos, negsuc, ◌+ℤ◌, ◌-ℤ◌, Bool, List, [], ◌∷◌, None, Some, true, false}
use Rattle.std.specs.Prelude.{map, ◌*◌, ◌-◌}
use Rattle.std.proofs.lemmas.Int.{ints}
use Rattle.pg_list.specs.declared.item.Item.{Item}
use Rattle.pg_list.specs.declared.item.Item.TheVariants.{BoxItem, Glue, Penalty}
use Rattle.pg_list.specs.declared.item.Order.TheVariants.{Finite}
use Rattle.pg_list.specs.Break.{passes_between}
use Rattle.pg_list.specs.GalleyValue.{GalleyValue}
use Rattle.pg_plan.specs.declared.pages.Page.{Page}
use Rattle.pg_plan.specs.declared.pages.Pagination.{Pagination}
use Rattle.pg_style.specs.Plain.{rigid}
use Rattle.pg_style.specs.Values.{AreaRuleValue, StyleValue}
use Rattle.pg_style.specs.declared.style.Area.TheVariants.{Top, Wide}
use Rattle.pg_style.specs.declared.style.Class.{Class}
use Rattle.pg_style.specs.declared.style.Gap.{Gap}
use Rattle.pg_style.specs.declared.style.Kind.TheVariants.{Note, Float}
use Rattle.pg_rules.specs.ColumnRules.{segment, tallest_goal, text_goal}
use Rattle.pg_rules.specs.Cost.{cost}
use Rattle.pg_rules.specs.Floats.{gap_shrink}
use Rattle.pg_rules.specs.Legal.{breach}
use Rattle.pg_rules.specs.Reach.{is_over_at_most}
use Rattle.pg_rules.specs.Room.{ColumnContext, areas_give, give, notes, room, skips_give}
use Rattle.pg_rules.proofs.Examples.{points, line, lines, gap, soft_gap, endless_gap, tie, insert, plain, galley, at, text_column, page, pages, two_pages}

-- where a text is over: its goal is passed by more than it and the gaps around it can shrink
tallest_goal_is : (it : ColumnContext) (n : ℕ) → tallest_goal it n ≡ text_goal it n +ℤ give gap_shrink it (segment it n)
tallest_goal_is it n =
    sums (room it) (areas_give gap_shrink it) (notes it.document.style (segment it n))
    (skips_give gap_shrink it.document.style (segment it n))
  where
    sums : (r a h k : ℤ) → ((r +ℤ a) -ℤ (h -ℤ k)) ≡ ((r -ℤ h) +ℤ (a +ℤ k))
    sums r a h k = omega (arith, ints)

-- ---- what is set

abbrev third : ℕ → StyleValue
third height = record (plain height) { version = 3 }

-- a gap of so many points that may be stretched and shrunk by so many units
abbrev giving : ℕ → ℤ → ℤ → Gap
giving size stretch shrink = record { size = points size; stretch = stretch; shrink = shrink }

abbrev with_gap : ℕ → Gap → AreaRuleValue
with_gap count gap = record { count = count; sep = rigid (pos 0); gap = gap }

abbrev top_floats : Class
top_floats = record { number = 100; kind = Float Top (0 ∷ []) }

abbrev top_style : ℕ → Gap → StyleValue
top_style height gap = record (third height) { top = with_gap 1 gap; classes = top_floats ∷ [] }

abbrev note_style : ℕ → Gap → StyleValue
note_style height skip = record (third height) { classes = record { number = 200; kind = Note skip (points 100) } ∷ [] }

-- two lines that hold together, with an insert behind the first
abbrev tied : ℕ → ℕ → GalleyValue
tied class size = galley (line ∷ insert class size ∷ tie ∷ gap ∷ line ∷ [])

-- text with so many floats at its top
abbrev topped : ℕ → ℕ → ℕ → Page
topped from to top =
    page (0 ∷ []) (record { from = at from; to = at to; top = top ∷ []; bottom = 0 ∷ []; picks = [] } ∷ [])

abbrev one_text : ℕ → Pagination
one_text to = pages (page [] (text_column (at 0) (at to) [] ∷ []) ∷ [])

-- ---- the gap of an area

-- two points too long, which the gap gives just
gap_shrinks : breach (tied 100 20) (top_style 50 (giving 10 (pos 0) (points 2))) (pages (topped 0 5 1 ∷ [])) ≡ None
unfolding breach
gap_shrinks = refl

gap_shrinks_cost : cost (tied 100 20) (top_style 50 (giving 10 (pos 0) (points 2))) (pages (topped 0 5 1 ∷ [])) ≡ pos 12100
unfolding cost
gap_shrinks_cost = refl

-- one unit less
gap_shrinks_not : breach (tied 100 20) (top_style 50 (giving 10 (pos 0) (pos 131071))) (pages (topped 0 5 1 ∷ [])) ≡ Some (4, 1)
unfolding breach
gap_shrinks_not = refl

abbrev sep_style : ℤ → StyleValue
sep_style height = record (third 51) {
  height = height;
  top = record { count = 2; sep = giving 4 (pos 0) (points 1); gap = giving 10 (pos 0) (points 2) };
  classes = top_floats ∷ [];
}

abbrev two_above : GalleyValue
two_above = galley (line ∷ insert 100 10 ∷ insert 100 8 ∷ tie ∷ gap ∷ line ∷ [])

-- between two floats and below them, three points are given just
seps : breach two_above (sep_style (points 51)) (pages (topped 0 6 2 ∷ [])) ≡ None
unfolding breach
seps = refl

seps_cost : cost two_above (sep_style (points 51)) (pages (topped 0 6 2 ∷ [])) ≡ pos 12100
unfolding cost
seps_cost = refl

seps_not : breach two_above (sep_style (pos 3342335)) (pages (topped 0 6 2 ∷ [])) ≡ Some (4, 1)
unfolding breach
seps_not = refl

-- across the page nothing gives
gap_wide : breach (tied 100 20) (record (third 50) {
  wide = with_gap 1 (giving 10 (pos 0) (points 2));
  classes = record { number = 100; kind = Float Wide (0 ∷ []) } ∷ [];
}) (pages (page (1 ∷ []) (text_column (at 0) (at 5) (0 ∷ []) ∷ []) ∷ [])) ≡ Some (4, 1)
unfolding breach
gap_wide = refl

-- an area whose float is not there gives nothing
no_float_no_give : breach (galley (line ∷ tie ∷ gap ∷ line ∷ [])) (top_style 20 (giving 4 (pos 0) (points 2))) (pages (topped 0 4 1 ∷ [])) ≡ Some (4, 1)
unfolding breach
no_float_no_give = refl

-- two points short, and three lines are over
abbrev short : Item → GalleyValue
short glue = galley (line ∷ insert 100 24 ∷ tie ∷ glue ∷ line ∷ gap ∷ line ∷ [])

abbrev strict : ℕ → ℤ → StyleValue
strict tolerance stretch = record (top_style 58 (giving 10 stretch (pos 0))) { tolerance = tolerance }

abbrev first_four : Pagination
first_four = pages (topped 0 5 1 ∷ topped 5 7 0 ∷ [])

gap_stretches : breach (short gap) (strict 100 (points 2)) first_four ≡ None
unfolding breach
gap_stretches = refl

gap_stretches_cost : cost (short gap) (strict 100 (points 2)) first_four ≡ pos 12200
unfolding cost
gap_stretches_cost = refl

gap_stretches_not : breach (short gap) (strict 100 (pos 130417)) first_four ≡ Some (4, 1)
unfolding breach
gap_stretches_not = refl

-- infinite stretch takes all
gap_beside_fil : breach (short endless_gap) (strict 0 (points 2)) first_four ≡ None
unfolding breach
gap_beside_fil = refl

gap_beside_fil_cost : cost (short endless_gap) (strict 0 (points 2)) first_four ≡ pos 200
unfolding cost
gap_beside_fil_cost = refl

-- ---- the skip of notes

skip_shrinks : breach (tied 200 9) (note_style 35 (giving 6 (points 3) (points 2))) (one_text 5) ≡ None
unfolding breach
skip_shrinks = refl

skip_shrinks_cost : cost (tied 200 9) (note_style 35 (giving 6 (points 3) (points 2))) (one_text 5) ≡ pos 12100
unfolding cost
skip_shrinks_cost = refl

skip_shrinks_not : breach (tied 200 9) (record (note_style 35 (giving 6 (points 3) (points 2))) { height = pos 2293759 }) (one_text 5) ≡ Some (4, 1)
unfolding breach
skip_shrinks_not = refl

-- without a note it gives nothing
skip_without_note : breach (galley (line ∷ tie ∷ gap ∷ line ∷ [])) (note_style 20 (giving 6 (points 3) (points 2))) (one_text 4) ≡ Some (4, 1)
unfolding breach
skip_without_note = refl

-- ---- breaks inside

abbrev back : ℕ → Item
back n = Glue (negsuc (n * 65536 - 1)) (pos 0) Finite (pos 0) []

-- at the break before the negative glue the gap gives two points
gap_at_inner_break : breach (galley (line ∷ insert 100 20 ∷ tie ∷ gap ∷ line ∷ back 12 ∷ line ∷ [])) (top_style 50 (giving 10 (pos 0) (points 2))) (pages (topped 0 7 1 ∷ [])) ≡ None
unfolding breach
gap_at_inner_break = refl

gap_at_inner_break_not : breach (galley (line ∷ insert 100 20 ∷ tie ∷ gap ∷ line ∷ back 12 ∷ line ∷ [])) (top_style 50 (giving 10 (pos 0) (pos 131071))) (pages (topped 0 7 1 ∷ [])) ≡ Some (5, 1)
unfolding breach
gap_at_inner_break_not = refl

-- a note in front of it has its skip give there
note_before_inner_break : breach (galley (line ∷ insert 200 1 ∷ tie ∷ gap ∷ line ∷ back 20 ∷ line ∷ [])) (note_style 27 (giving 6 (pos 0) (points 2))) (one_text 7) ≡ None
unfolding breach
note_before_inner_break = refl

-- and one behind it has not
note_behind_inner_break : breach (galley (line ∷ tie ∷ gap ∷ line ∷ back 20 ∷ line ∷ insert 200 1 ∷ [])) (note_style 20 (giving 6 (pos 0) (points 2))) (one_text 7) ≡ Some (5, 1)
unfolding breach
note_behind_inner_break = refl

-- ---- ragged texts

abbrev ragged_style : ℤ → StyleValue
ragged_style height = record (third 52) { height = height; tolerance = 100; ragged = Some (points 30) }

-- two lines, and a tall one that does not fit below them
abbrev above_tall : Item → GalleyValue
above_tall glue = galley (line ∷ tie ∷ glue ∷ line ∷ gap ∷ BoxItem (points 40) (points 2) [] ∷ [])

-- the foot alone stretches, by what the text is short just
ragged : breach (above_tall (soft_gap 100)) (ragged_style (points 52)) (two_pages 4 6) ≡ None
unfolding breach
ragged = refl

ragged_cost : cost (above_tall (soft_gap 100)) (ragged_style (points 52)) (two_pages 4 6) ≡ pos 12200
unfolding cost
ragged_cost = refl

-- half a point more
ragged_not : breach (above_tall (soft_gap 100)) (ragged_style (pos 3440640)) (two_pages 4 6) ≡ Some (4, 1)
unfolding breach
ragged_not = refl

ragged_fil_cost : cost (above_tall endless_gap) (ragged_style (points 52)) (two_pages 4 6) ≡ pos 200
unfolding cost
ragged_fil_cost = refl

-- what gaps could stretch by does not count
ragged_gap : cost (galley (line ∷ insert 100 20 ∷ tie ∷ gap ∷ line ∷ gap ∷ BoxItem (points 70) (points 2) [] ∷ []))
    (record (top_style 82 (giving 10 (points 100) (pos 0))) { tolerance = 100; ragged = Some (points 30) })
    first_four ≡ pos 12200
unfolding cost
ragged_gap = refl

-- a long text shrinks as ever
ragged_long : cost (tied 100 20) (record (top_style 50 (giving 10 (pos 0) (points 2))) { ragged = Some (points 30) }) (pages (topped 0 5 1 ∷ [])) ≡ pos 12100
unfolding cost
ragged_long = refl

-- at a spent end a text may be as short as it likes
ragged_spent : cost (galley (line ∷ soft_gap 1 ∷ line ∷ [])) (record (third 58) { tolerance = 0; ragged = Some (pos 1) }) (one_text 3) ≡ pos 100
unfolding cost
ragged_spent = refl

-- ---- bonuses

-- badness 100 with this penalty behind it
abbrev rewarded : ℤ → GalleyValue
rewarded penalty = galley (line ∷ tie ∷ soft_gap 2 ∷ line ∷ Penalty penalty [] ∷ gap ∷ BoxItem (points 20) (points 2) [] ∷ [])

-- a bonus is taken off badness, as far as that goes; in version 2 its square is taken off
bonuses : map (λ penalty. cost (rewarded penalty) (third 24) (two_pages 4 7)) (negsuc 49 ∷ negsuc 99 ∷ negsuc 100 ∷ negsuc 9998 ∷ pos 0 ∷ pos 50 ∷ [])
    ≡ pos 3700 ∷ pos 200 ∷ pos 200 ∷ pos 200 ∷ pos 12200 ∷ pos 14700 ∷ []
unfolding cost
bonuses = refl

bonus_in_version_2 : cost (rewarded (negsuc 49)) (record (plain 24) { version = 2 }) (two_pages 4 7) ≡ pos 9700
unfolding cost
bonus_in_version_2 = refl

-- a penalty that forces is no bonus
forced_is_no_bonus : cost (rewarded (negsuc 9999)) (third 24) (two_pages 4 7) ≡ pos 12200
unfolding cost
forced_is_no_bonus = refl

-- ---- shrink below 0

abbrev stiff : GalleyValue
stiff = galley (line ∷ insert 200 9 ∷ tie ∷ Glue (points 3) (pos 0) Finite (negsuc 196607) [] ∷ line ∷ [])

-- below its goal with all that gaps give a text is not over, whatever its own shrink
shrink_below_0 : cost stiff (note_style 36 (giving 6 (pos 0) (points 2))) (one_text 5) ≡ pos 100200100
unfolding cost
shrink_below_0 = refl

shrink_below_0_legal : breach stiff (note_style 36 (giving 6 (pos 0) (points 2))) (one_text 5) ≡ None
unfolding breach
shrink_below_0_legal = refl

shrink_below_0_not : breach stiff (note_style 35 (giving 6 (pos 0) (points 2))) (one_text 5) ≡ Some (4, 1)
unfolding breach
shrink_below_0_not = refl

-- ---- reach

-- the reach of ten lines in 58 points grows where a skip or the gaps of an area may give twelve points
abbrev ten_lines_pass : StyleValue → List ℕ → List Bool
ten_lines_pass style ends = map (passes_between (lines 9) (is_over_at_most style (lines 9))) ends

reach_by_skip : ten_lines_pass (note_style 58 (giving 20 (pos 0) (points 12))) (11 ∷ 12 ∷ 13 ∷ 14 ∷ [])
    ≡ true ∷ true ∷ true ∷ false ∷ []
reach_by_skip = refl

reach_by_skip_not : ten_lines_pass (note_style 58 (giving 20 (pos 0) (pos 786431))) (11 ∷ 12 ∷ 13 ∷ 14 ∷ [])
    ≡ true ∷ false ∷ false ∷ false ∷ []
reach_by_skip_not = refl

reach_by_seps : ten_lines_pass (record (third 58) {
  top = record { count = 3; sep = giving 5 (pos 0) (points 5); gap = giving 2 (pos 0) (points 2) };
}) (11 ∷ 12 ∷ 13 ∷ 14 ∷ []) ≡ true ∷ true ∷ true ∷ false ∷ []
reach_by_seps = refl

reach_by_no_area : ten_lines_pass (record (third 58) {
  top = with_gap 0 (giving 20 (pos 0) (points 12));
  wide = with_gap 1 (giving 20 (pos 0) (points 12));
}) (11 ∷ 12 ∷ 13 ∷ 14 ∷ []) ≡ true ∷ false ∷ false ∷ false ∷ []
reach_by_no_area = refl
