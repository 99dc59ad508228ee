-- Sheets worked by hand, computed.
use Rattle.std.proofs.Common.{◌≡◌, refl, [], ◌∷◌, codes}
use Rattle.std.specs.Fmt.{digits}
use Rattle.pg_fold.specs.Folding.{readings}
use Rattle.pg_fold.specs.Imposed.{imposed}
use Rattle.pg_fold.specs.SheetsText.{fold_text, head_front, head_line, side_line}

-- one sheet folded once, of two pages
two_pages : imposed 1 1 2 ≡ record { front = 2 ∷ 0 ∷ []; back = 1 ∷ 0 ∷ [] } ∷ []
two_pages = refl

folded_twice : imposed 2 1 8 ≡ record { front = 2 ∷ 3 ∷ 7 ∷ 6 ∷ []; back = 1 ∷ 4 ∷ 8 ∷ 5 ∷ [] } ∷ []
folded_twice = refl

two_nested : imposed 1 2 8 ≡ record { front = 2 ∷ 7 ∷ []; back = 1 ∷ 8 ∷ [] }
    ∷ record { front = 4 ∷ 5 ∷ []; back = 3 ∷ 6 ∷ [] } ∷ []
two_nested = refl

no_pages : imposed 1 1 0 ≡ []
no_pages = refl

-- ---- texts, and sheets of more folds

two_pages_text : fold_text 1 1 2 (imposed 1 1 2)
    ≡ codes "signatures 1 sheets 1 pages 2 blank 2\nsheet 1 front 2 -\nsheet 1 back 1 -\n"
unfolding head_line head_front side_line digits
two_pages_text = refl

no_pages_text : fold_text 1 1 0 (imposed 1 1 0) ≡ codes "signatures 0 sheets 0 pages 0 blank 0\n"
unfolding head_line head_front side_line digits
no_pages_text = refl

three_folds : imposed 3 2 37 ≡
    record { front = 2 ∷ 31 ∷ 30 ∷ 3 ∷ 7 ∷ 26 ∷ 27 ∷ 6 ∷ []; back = 1 ∷ 32 ∷ 29 ∷ 4 ∷ 8 ∷ 25 ∷ 28 ∷ 5 ∷ [] }
    ∷ record { front = 10 ∷ 23 ∷ 22 ∷ 11 ∷ 15 ∷ 18 ∷ 19 ∷ 14 ∷ []; back = 9 ∷ 24 ∷ 21 ∷ 12 ∷ 16 ∷ 17 ∷ 20 ∷ 13 ∷ [] }
    ∷ record { front = 34 ∷ 0 ∷ 0 ∷ 35 ∷ 0 ∷ 0 ∷ 0 ∷ 0 ∷ []; back = 33 ∷ 0 ∷ 0 ∷ 36 ∷ 0 ∷ 0 ∷ 0 ∷ 37 ∷ [] }
    ∷ record { front = 0 ∷ 0 ∷ 0 ∷ 0 ∷ 0 ∷ 0 ∷ 0 ∷ 0 ∷ []; back = 0 ∷ 0 ∷ 0 ∷ 0 ∷ 0 ∷ 0 ∷ 0 ∷ 0 ∷ [] } ∷ []
three_folds = refl

four_folds : imposed 4 1 32 ≡ record {
  front = 2 ∷ 15 ∷ 14 ∷ 3 ∷ 31 ∷ 18 ∷ 19 ∷ 30 ∷ 26 ∷ 23 ∷ 22 ∷ 27 ∷ 7 ∷ 10 ∷ 11 ∷ 6 ∷ [];
  back = 1 ∷ 16 ∷ 13 ∷ 4 ∷ 32 ∷ 17 ∷ 20 ∷ 29 ∷ 25 ∷ 24 ∷ 21 ∷ 28 ∷ 8 ∷ 9 ∷ 12 ∷ 5 ∷ [];
} ∷ []
four_folds = refl

two_signatures : imposed 2 2 17 ≡ record { front = 2 ∷ 3 ∷ 15 ∷ 14 ∷ []; back = 1 ∷ 4 ∷ 16 ∷ 13 ∷ [] }
    ∷ record { front = 6 ∷ 7 ∷ 11 ∷ 10 ∷ []; back = 5 ∷ 8 ∷ 12 ∷ 9 ∷ [] }
    ∷ record { front = 0 ∷ 0 ∷ 0 ∷ 0 ∷ []; back = 17 ∷ 0 ∷ 0 ∷ 0 ∷ [] }
    ∷ record { front = 0 ∷ 0 ∷ 0 ∷ 0 ∷ []; back = 0 ∷ 0 ∷ 0 ∷ 0 ∷ [] } ∷ []
two_signatures = refl

three_nested : imposed 1 3 9 ≡ record { front = 2 ∷ 0 ∷ []; back = 1 ∷ 0 ∷ [] }
    ∷ record { front = 4 ∷ 9 ∷ []; back = 3 ∷ 0 ∷ [] }
    ∷ record { front = 6 ∷ 7 ∷ []; back = 5 ∷ 8 ∷ [] } ∷ []
three_nested = refl

-- a sheet that is read in another order than it is printed: the definition alone, with pages laid by hand
read_by_hand : readings 2 1 1 (record { front = 2 ∷ 3 ∷ 7 ∷ 6 ∷ []; back = 1 ∷ 4 ∷ 8 ∷ 5 ∷ [] } ∷ []) ≡ 1 ∷ 2 ∷ 3 ∷ 4
    ∷ 5 ∷ 6 ∷ 7 ∷ 8 ∷ []
read_by_hand = refl

swapped_reads : readings 1 1 1 (record { front = 1 ∷ 4 ∷ []; back = 2 ∷ 3 ∷ [] } ∷ []) ≡ 2 ∷ 1 ∷ 4 ∷ 3 ∷ []
swapped_reads = refl
