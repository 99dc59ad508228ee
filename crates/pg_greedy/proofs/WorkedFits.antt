-- First fit of small galleys, computed.
use Rattle.std.proofs.Common.{◌≡◌, refl, ℕ, pos, ◌++◌, List, [], ◌∷◌, Some, None, map, codes}
use Rattle.std.specs.Fmt.{digits}
use Rattle.pg_list.specs.declared.item.Item.TheVariants.{BoxItem, Carry}
use Rattle.pg_list.specs.declared.blocks.Block.TheVariants as block
use Rattle.pg_list.specs.declared.blocks.Block.TheVariants.{One}
use Rattle.pg_list.specs.GalleyValue.{GalleyValue}
use Rattle.pg_plan.specs.declared.pages.Page.{Page}
use Rattle.pg_plan.specs.declared.pages.Pagination.{Pagination}
use Rattle.pg_rules.specs.Cost.{cost}
use Rattle.pg_rules.specs.Legal.{breach}
use Rattle.pg_rules.proofs.Examples.{galley, line, gap, soft_gap, eject, penalty, insert, points, plain, pages, page, text_column, at, one_note, note_style, floats_style}
use Rattle.pg_greedy.specs.Breaks.{break_cost}
use Rattle.pg_greedy.specs.Faults.{greedy_fault}
use Rattle.pg_greedy.specs.declared.fault.GreedyFault.TheVariants.{Columns, Choice, Float}
use Rattle.pg_greedy.specs.Ahead.{first_fit}
use Rattle.pg_greedy.specs.Compare.{best_line, breach_text, broken_text, first_line, pages_text, saved_text}

-- pages of one column each, cut at these blocks
abbrev from : ℕ → List ℕ → List Page
from a [] = []
from a (b ∷ ends) = page [] (text_column (at a) (at b) [] ∷ []) ∷ from b ends

abbrev cut : List ℕ → Pagination
cut ends = pages (from 0 ends)

-- ---- soft gaps: the last break at which the first page fits leaves the second one short

abbrev soft : GalleyValue
soft = galley (line ∷ soft_gap 12 ∷ line ∷ gap ∷ line ∷ soft_gap 12 ∷ line ∷ gap ∷ line ∷ eject ∷ line ∷ [])

soft_fit : first_fit soft (plain 34) ≡ cut (5 ∷ 9 ∷ 11 ∷ [])
unfolding first_fit
soft_fit = refl

soft_text : first_line 3 (breach soft (plain 34) (cut (5 ∷ 9 ∷ 11 ∷ [])))
    (cost soft (plain 34) (cut (5 ∷ 9 ∷ 11 ∷ []))) (cost soft (plain 34) (cut (3 ∷ 9 ∷ 11 ∷ [])))
    ++ best_line 3 (cost soft (plain 34) (cut (3 ∷ 9 ∷ 11 ∷ [])))
    ≡ codes "first fit pages 3 cost 100200300 saved 100188000\nbest pages 3 cost 12300\n"
unfolding breach cost pages_text saved_text best_line digits
soft_text = refl

-- ---- a penalty there is dearer than the break before it, though it fits too

abbrev penalized : GalleyValue
penalized = galley (line ∷ soft_gap 12 ∷ line ∷ gap ∷ line ∷ penalty 150 ∷ line ∷ gap ∷ line ∷ eject ∷ line ∷ [])

penalized_fit : first_fit penalized (plain 34) ≡ cut (3 ∷ 9 ∷ 11 ∷ [])
unfolding first_fit
penalized_fit = refl

penalized_costs : map
    (break_cost (plain 34)
    (line ∷ soft_gap 12 ∷ line ∷ gap ∷ line ∷ penalty 150 ∷ line ∷ gap ∷ line ∷ eject ∷ line ∷ [])) (1 ∷ 3 ∷ 5 ∷ 7 ∷ [])
    ≡ pos 100000 ∷ pos 100 ∷ pos 150 ∷ pos 1073741823 ∷ []
penalized_costs = refl

-- ---- no break behind a box, a text that is too long, and equal costs

nothing_fit : first_fit (galley []) (plain 34) ≡ cut []
unfolding first_fit
nothing_fit = refl

spent_fit : first_fit (galley (gap ∷ penalty 10 ∷ [])) (plain 34) ≡ cut []
unfolding first_fit
spent_fit = refl

-- a carry alone makes a page without a box, which breaks a rule
carry_fit : first_fit (galley (Carry [] ∷ [])) (plain 34) ≡ cut (1 ∷ [])
unfolding first_fit
carry_fit = refl

carry_breach : breach (galley (Carry [] ∷ [])) (plain 34) (cut (1 ∷ [])) ≡ Some (3, 1)
unfolding breach
carry_breach = refl

-- a box that is too high for the page stands alone, and the line says which rule is broken
high_fit : first_fit (galley (BoxItem (points 60) (pos 0) [] ∷ gap ∷ line ∷ [])) (plain 34) ≡ cut (1 ∷ 3 ∷ [])
unfolding first_fit
high_fit = refl

high_text : first_line 2
    (breach (galley (BoxItem (points 60) (pos 0) [] ∷ gap ∷ line ∷ [])) (plain 34) (cut (1 ∷ 3 ∷ []))) (pos 0) (pos 0)
    ≡ codes "first fit pages 2 illegal rule 4 column 1\n"
unfolding breach pages_text breach_text broken_text digits
high_text = refl

-- one box that no page can hold
abbrev tall : GalleyValue
tall = galley (BoxItem (points 700) (pos 0) [] ∷ [])

tall_fit : first_fit tall (plain 550) ≡ cut (1 ∷ [])
unfolding first_fit
tall_fit = refl

tall_text : first_line 1 (breach tall (plain 550) (cut (1 ∷ []))) (pos 0) (pos 0)
    ≡ codes "first fit pages 1 illegal rule 4 column 1\n"
unfolding breach pages_text breach_text broken_text digits
tall_text = refl

-- of breaks of one cost the last is taken
equal_fit : first_fit (galley (line ∷ gap ∷ line ∷ gap ∷ line ∷ gap ∷ line ∷ [])) (plain 22) ≡ cut (3 ∷ 7 ∷ [])
unfolding first_fit
equal_fit = refl

-- notes are taken from the goal
note_fit : first_fit one_note (note_style 100)
    ≡ record {
      pages = record
          { run = 0; wide = []; columns = record { from = at 0; to = at 7; top = []; bottom = []; picks = [] } ∷ [] }
          ∷ record {
            run = 0;
            wide = [];
            columns = record
                { from = at 7; to = at 10; top = []; bottom = []; picks = [] } ∷ [];
          } ∷ [];
    }
unfolding first_fit
note_fit = refl

-- ---- refusals

columns_fault : greedy_fault (record (plain 34) { columns = 2 }) (One line ∷ []) ≡ Some Columns
columns_fault = refl

choice_fault : greedy_fault (plain 34) (One line ∷ block.Choice [] ∷ []) ≡ Some (Choice 1)
choice_fault = refl

float_fault : greedy_fault (floats_style (0 ∷ [])) (map One (line ∷ gap ∷ insert 100 50 ∷ line ∷ [])) ≡ Some (Float 2)
float_fault = refl

note_allowed : greedy_fault (note_style 100) one_note.blocks ≡ None
note_allowed = refl
