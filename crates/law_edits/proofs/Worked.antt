-- Galleys that agree below a block, and how they differ there, computed.
use Rattle.std.proofs.Common.{◌≡◌, refl, List, [], ◌∷◌, ℕ, Some, None, arith}
use Rattle.std.specs.Prelude.{map}
use Rattle.pg_list.specs.GalleyValue.{GalleyValue}
use Rattle.pg_list.specs.Places.{spliced}
use Rattle.pg_list.specs.declared.blocks.Block.TheVariants.{One}
use Rattle.pg_list.specs.declared.galley.Edit.{Edit}
use Rattle.pg_list.specs.declared.item.Item.{Item}
use Rattle.pg_list.specs.declared.item.Item.TheVariants.{Carry}
use Rattle.pg_plan.specs.declared.pages.Pagination.{Pagination}
use Rattle.pg_rules.specs.Legal.{document}
use Rattle.pg_rules.specs.Reach.{AgreeBelow, touched}
use Rattle.pg_rules.specs.States.{prefix_breach}
use Rattle.pg_rules.proofs.Examples.{at, eject, galley, gap, kern, line, page, pages, plain, ten_lines, text_column}
use Rattle.law_space.specs.ReachAt.{reach_at}

-- ---- edits

abbrev replaced : ℕ → ℕ → List Item → Edit
replaced n gone items = record { at = n; gone = gone; fresh = map One items }

abbrev edited : GalleyValue → Edit → GalleyValue
edited it edit = record it { blocks = spliced it.blocks edit }

-- ---- ten lines, of which the last gives way to two

abbrev eleven_lines : GalleyValue
eleven_lines = edited ten_lines (replaced 18 1 (line ∷ gap ∷ line ∷ []))

lines_agree : AgreeBelow 18 ten_lines.blocks eleven_lines.blocks
lines_agree = record { same = refl; first_tail = omega arith; second_tail = omega arith }

-- reaches are the same below the block 18; from there on they may differ
abbrev line_reaches : GalleyValue → List ℕ
line_reaches it = map (λ (n : ℕ). reach_at (document it (plain 58)) (at n)) (0 ∷ 1 ∷ 3 ∷ 5 ∷ 7 ∷ 9 ∷ [])

ten_reach : line_reaches ten_lines ≡ 12 ∷ 14 ∷ 16 ∷ 18 ∷ 20 ∷ 20 ∷ []
unfolding reach_at
ten_reach = refl

eleven_reach : line_reaches eleven_lines ≡ 12 ∷ 14 ∷ 16 ∷ 18 ∷ 20 ∷ 22 ∷ []
unfolding reach_at
eleven_reach = refl

-- ---- one column up to a place

abbrev column_to : ℕ → Pagination
column_to n = pages (page [] (text_column (at 0) (at n) [] ∷ []) ∷ [])

-- ---- the block below that which is touched: a kern is a break where glue follows it

abbrev kerned : GalleyValue
kerned = galley (line ∷ kern ∷ line ∷ [])

abbrev glue_behind : Edit
glue_behind = replaced 2 0 (gap ∷ [])

kerned_touched : touched kerned.blocks glue_behind ≡ 2
kerned_touched = refl

kerned_breach : prefix_breach kerned (plain 58) (column_to 1) ≡ Some (3, 1)
unfolding prefix_breach
kerned_breach = refl

glued_breach : prefix_breach (edited kerned glue_behind) (plain 58) (column_to 1) ≡ None
unfolding prefix_breach
glued_breach = refl

-- ---- the tails: a penalty is forced where a box stands behind it

abbrev ejected : GalleyValue
ejected = galley (line ∷ eject ∷ Carry [] ∷ gap ∷ gap ∷ [])

abbrev line_behind : Edit
line_behind = replaced 5 0 (line ∷ [])

ejected_touched : touched ejected.blocks line_behind ≡ 1
ejected_touched = refl

ejected_breach : prefix_breach ejected (plain 58) (column_to 3) ≡ None
unfolding prefix_breach
ejected_breach = refl

lined_breach : prefix_breach (edited ejected line_behind) (plain 58) (column_to 3) ≡ Some (5, 1)
unfolding prefix_breach
lined_breach = refl
