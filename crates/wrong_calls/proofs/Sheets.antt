-- Sheets that are read in their order, and that are refused for a cell that no fold reads.
use Rattle.std.proofs.Common.{◌≡◌, refl, arith, ℕ, List, [], ◌∷◌}
use Rattle.pg_fold.specs.Folding.{readings}
use Rattle.pg_fold.specs.Laws.{ReadsInOrder, StandsOnce, pages_and_blanks}
use Rattle.pg_fold.specs.declared.sheets.Sheet.{Sheet}

-- one sheet of two pages, with one blank too many behind them
abbrev wide : List Sheet
wide = record { front = 2 ∷ 0 ∷ 0 ∷ []; back = 1 ∷ 0 ∷ [] } ∷ []

it_is_read_in_order : readings 1 1 1 wide ≡ pages_and_blanks 1 1 2
it_is_read_in_order = refl

the_first_stands_once : StandsOnce wide 1
the_first_stands_once = refl

the_second_stands_once : StandsOnce wide 2
the_second_stands_once = refl

no_blank_too_many : ReadsInOrder 1 1 2 wide → ⊥
no_blank_too_many it = let count : 3 ≡ 2 = it.cells.0.front in omega (arith, count)
