-- The cases at the boundary of each rule, computed.
use Rattle.std.proofs.Common.{◌≡◌, refl, pos, negsuc, List, [], ◌∷◌, Some, None, true, false, ℕ}
use Rattle.std.specs.declared.cmp.Ordering.TheVariants.{Less}
use Rattle.pg_list.specs.declared.item.Item.TheVariants.{BoxItem, Penalty}
use Rattle.pg_list.specs.GalleyValue.{GalleyValue}
use Rattle.pg_list.specs.Badness.{is_over, page_badness}
use Rattle.pg_list.specs.Totals.{total}
use Rattle.pg_plan.specs.Order.{picks_cmp}
use Rattle.pg_plan.specs.declared.pages.Pagination.{Pagination}
use Rattle.pg_plan.specs.declared.states.Side.{Side}
use Rattle.pg_plan.specs.declared.states.Side.TheVariants.{L, R, S}
use Rattle.pg_plan.specs.declared.states.State.{State}
use Rattle.pg_style.specs.Values.{StyleValue}
use Rattle.pg_style.specs.declared.style.First.TheVariants.{Right, Single}
use Rattle.pg_rules.specs.Cost.{cost}
use Rattle.pg_rules.specs.Legal.{breach, document}
use Rattle.pg_rules.specs.Reach.{Reaches}
use Rattle.pg_rules.specs.States.{state_of}
use Rattle.std.specs.Prelude.{Option}
use Rattle.pg_rules.proofs.Examples.{points, line, gap, soft_gap, penalty, eject, insert, plain, galley, at, text_column, floats_at, page, pages, two_pages, ten_lines, two_floats, floats_style, wide_style, wide_plan, tied_lines, runs_style, runs_plan}

-- ---- totals and badness

-- a depth above the limit counts into the size, and all of it before what follows
deep_totals : total (points 10) (points 4) (BoxItem (points 7) (points 6) [] ∷ []) ∷ total (points 10) (points 4) (BoxItem (points 7) (points 6) [] ∷ gap ∷ []) ∷ [] ≡ points 12 ∷ points 19 ∷ []
deep_totals = refl

-- at its goal a text is over where its shrink is negative
over_by_shrink : is_over (points 9) (negsuc 0) (points 9) ∷ is_over (points 9) (pos 0) (points 9) ∷ is_over (points 8) (negsuc 0) (points 9) ∷ [] ≡ true ∷ false ∷ false ∷ []
over_by_shrink = refl

-- an end with no box behind it is good where the text is not too long
spent_badness : page_badness true (points 9) (points 8) [] ∷ page_badness true (points 9) (points 9) [] ∷ page_badness true (points 8) (points 9) [] ∷ page_badness false (points 9) (points 8) [] ∷ [] ≡ 0 ∷ 0 ∷ 10000 ∷ 10000 ∷ []
spent_badness = refl

-- ---- ends and penalties

-- discardable items may be left behind the last column
spent_end_cost : cost (galley (line ∷ gap ∷ penalty 10 ∷ [])) (plain 58) (pages (page [] (text_column (at 0) (at 1) [] ∷ []) ∷ [])) ≡ pos 100
unfolding cost
spent_end_cost = refl

spent_end_legal : breach (galley (line ∷ gap ∷ penalty 10 ∷ [])) (plain 58) (pages (page [] (text_column (at 0) (at 1) [] ∷ []) ∷ [])) ≡ None
unfolding breach
spent_end_legal = refl

-- a penalty below 0 takes its square off
bonus_cost : cost (galley (line ∷ Penalty (negsuc 49) [] ∷ line ∷ [])) (plain 10) (two_pages 1 3) ≡ negsuc 2299
unfolding cost
bonus_cost = refl

-- a forced end excuses badness, but not a text that is over
forced_over : breach (galley (BoxItem (points 60) (pos 0) [] ∷ eject ∷ line ∷ [])) (plain 58) (two_pages 1 3) ≡ Some (4, 1)
unfolding breach
forced_over = refl

-- ---- counts and areas

-- a count beyond the classes is no float: the column without text is empty
no_class_no_float : breach two_floats (floats_style (0 ∷ 100 ∷ 400 ∷ []))
    (pages (page (0 ∷ []) (text_column (at 0) (at 5) (0 ∷ []) ∷ []) ∷ page (0 ∷ []) (record { from = at 5; to = at 5; top = 0 ∷ 1 ∷ []; bottom = 0 ∷ []; picks = [] } ∷ []) ∷ [])) ≡ Some (3, 2)
unfolding breach
no_class_no_float = refl

abbrev pub wide_of_size : ℕ → GalleyValue
wide_of_size size = galley (line ∷ gap ∷ line ∷ gap ∷ line ∷ insert 101 size ∷ gap ∷ line ∷ [])

abbrev pub wide_counts : List ℕ → Pagination
wide_counts wide = pages (
    page (0 ∷ []) (text_column (at 0) (at 3) (0 ∷ []) ∷ text_column (at 3) (at 8) (0 ∷ []) ∷ []) ∷ page wide (text_column (at 8) (at 8) (0 ∷ []) ∷ text_column (at 8) (at 8) (0 ∷ []) ∷ []) ∷ [])

-- wide counts of a wrong length are named at the page's first column
wide_counts_breach : breach (wide_of_size 10) wide_style (wide_counts (1 ∷ 0 ∷ [])) ≡ Some (7, 3)
unfolding breach
wide_counts_breach = refl

-- below wide floats alone no gap is due
wide_fits : breach (wide_of_size 22) wide_style wide_plan ≡ None
unfolding breach
wide_fits = refl

wide_is_high : breach (wide_of_size 23) wide_style wide_plan ≡ Some (6, 3)
unfolding breach
wide_is_high = refl

-- ---- runs and sides

-- a run that there is not
missing_run : breach tied_lines (runs_style Single) (runs_plan 7) ≡ Some (12, 2)
unfolding breach
missing_run = refl

abbrev pub right_state : ℕ → Side → Option ℕ → State
right_state n side run = record { place = at n; column = 1; side = side; run = run; wide = None; fitness = None; placed = []; ages = [] }

abbrev pub right_style : StyleValue
right_style = record (plain 58) { first = Right }

-- a right page at the front is free in its run, one behind a left page is not
right_states : state_of ten_lines right_style (pages []) ∷ state_of ten_lines right_style (pages (page [] (text_column (at 0) (at 9) [] ∷ []) ∷ [])) ∷ state_of ten_lines right_style (two_pages 9 19) ∷ []
    ≡ right_state 0 R None ∷ right_state 9 L None ∷ right_state 19 R (Some 0) ∷ []
unfolding state_of
right_states = refl

-- ---- ages and fitness

-- a float that is called in a page's first column has not waited in the second
called_state : state_of (galley (line ∷ insert 101 10 ∷ gap ∷ line ∷ [])) (record wide_style { height = points 10 }) (pages (page (0 ∷ []) (text_column (at 0) (at 2) (0 ∷ []) ∷ []) ∷ []))
    ≡ record { place = at 2; column = 2; side = S; run = Some 0; wide = None; fitness = None; placed = 0 ∷ []; ages = 0 ∷ [] }
unfolding state_of
called_state = refl

abbrev pub fit_galley : GalleyValue
fit_galley = galley (line ∷ soft_gap 12 ∷ line ∷ insert 100 10 ∷ gap ∷ line ∷ penalty 150 ∷ gap ∷ line ∷ [])

abbrev pub fit_style : StyleValue
fit_style = record (floats_style (0 ∷ 100 ∷ 400 ∷ [])) { version = 2; fitness = 20000; height = points 34 }

abbrev pub fit_begun : Pagination
fit_begun = pages (page (0 ∷ []) (text_column (at 0) (at 4) (0 ∷ []) ∷ []) ∷ page (0 ∷ []) (floats_at (at 4) 1 ∷ []) ∷ [])

abbrev pub fit_plan : Pagination
fit_plan = pages (page (0 ∷ []) (text_column (at 0) (at 4) (0 ∷ []) ∷ []) ∷ page (0 ∷ []) (floats_at (at 4) 1 ∷ []) ∷ page (0 ∷ []) (text_column (at 4) (at 9) (0 ∷ []) ∷ []) ∷ [])

-- a column without text between two columns of text keeps the fitness of the first
kept_fitness_state : state_of fit_galley fit_style fit_begun ≡ record { place = at 4; column = 1; side = S; run = None; wide = None; fitness = Some 0; placed = 1 ∷ []; ages = [] }
unfolding state_of
kept_fitness_state = refl

kept_fitness_cost : cost fit_galley fit_style fit_plan ≡ pos 33300
unfolding cost
kept_fitness_cost = refl

kept_fitness_legal : breach fit_galley fit_style fit_plan ≡ None
unfolding breach
kept_fitness_legal = refl

-- ---- order and reach

-- picks are compared from the last
later_pick_first : picks_cmp (1 ∷ 0 ∷ []) (0 ∷ 1 ∷ []) ≡ Less
later_pick_first = refl

-- the end reaches itself
end_reaches : Reaches (document ten_lines (plain 58)) (at 19) (at 19)
end_reaches = record { picks = []; size = 0; leads = refl; picked = refl; passes = refl }
