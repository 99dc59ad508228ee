-- Badnesses, worked out from the rule with its whole numbers (TeX: The Program, §108), and 31 that TeX told.
use Rattle.std.proofs.Common.{refl, ℕ, pos, negsuc, [], ◌∷◌}
use Rattle.std.specs.Prelude.{◌-◌, nat_lt, if◌then◌else◌}
use Rattle.pg_list.specs.Badness.{badness}
use Rattle.test_parts.proofs.Cases.{AreTold}

-- the badness of a page by its total, its goal, its stretch and its shrink
abbrev on_page : ℕ → ℕ → ℕ → ℕ → ℕ
on_page total goal stretch shrink =
    if nat_lt total goal then badness (pos (goal - total)) (pos stretch) else badness (pos (total - goal)) (pos shrink)

-- at both sides of each bound of the rule
by_the_rule : AreTold (
    (badness (pos 0) (pos 0), 0)
    ∷ (badness (pos 0) (pos 65536), 0)
    ∷ (badness (pos 0) (negsuc 65535), 0)
    ∷ (badness (pos 1) (pos 0), 10000)
    ∷ (badness (pos 1) (negsuc 0), 10000)
    ∷ (badness (pos 100) (pos 100), 100)
    ∷ (badness (pos 1) (pos 2), 12)
    ∷ (badness (pos 2) (pos 1), 800)
    ∷ (badness (pos 786432) (pos 196608), 6396)
    ∷ (badness (pos 1290) (pos 297), 8189)
    ∷ (badness (pos 1291) (pos 297), 10000)
    ∷ (badness (pos 7230584) (pos 1663496), 8189)
    ∷ (badness (pos 7230585) (pos 1663496), 10000)
    ∷ (badness (pos 7230585) (pos 1663497), 8189)
    ∷ (badness (pos 7230585) (pos 7230585), 100)
    ∷ (badness (pos 1073741823) (pos 1073741823), 100)
    ∷ [])
by_the_rule = refl

-- what TeX said behind the footnote of LaTeX's sample document, with the space above the footnote: 58 points of
-- 531.45999 with 5 of stretch and 2 of shrink, and so on
told_by_tex : AreTold (
    (on_page 3801088 34829762 327680 131072, 10000)
    ∷ (on_page 4587520 34829762 393216 131072, 10000)
    ∷ (on_page 5373952 34829762 393216 131072, 10000)
    ∷ (on_page 6160384 34829762 393216 131072, 10000)
    ∷ (on_page 6946816 34829762 393216 131072, 10000)
    ∷ (on_page 11335903 34829762 862888 187504, 10000)
    ∷ (on_page 12646623 34829762 1059496 449648, 10000)
    ∷ (on_page 13433055 34829762 1059496 449648, 10000)
    ∷ (on_page 14743775 34829762 1256104 711792, 10000)
    ∷ (on_page 16054495 34829762 1518248 973936, 10000)
    ∷ (on_page 16840927 34829762 1518248 973936, 10000)
    ∷ (on_page 17627359 34829762 1583784 973936, 10000)
    ∷ (on_page 18413791 34829762 1583784 973936, 10000)
    ∷ (on_page 19724511 34829762 1780392 1236080, 10000)
    ∷ (on_page 20510943 34829762 1780392 1236080, 10000)
    ∷ (on_page 21821663 34829762 1977000 1498224, 10000)
    ∷ (on_page 22608095 34829762 1977000 1498224, 10000)
    ∷ (on_page 23394527 34829762 1977000 1498224, 10000)
    ∷ (on_page 24705247 34829762 2239144 1629296, 10000)
    ∷ (on_page 25491679 34829762 2239144 1629296, 7238)
    ∷ (on_page 26802399 34829762 2501288 1760368, 3302)
    ∷ (on_page 27588831 34829762 2501288 1760368, 2418)
    ∷ (on_page 28637407 34829762 2632360 1891440, 1297)
    ∷ (on_page 29423839 34829762 2632360 1891440, 862)
    ∷ (on_page 30734559 34829762 2894504 2022512, 283)
    ∷ (on_page 31520991 34829762 2894504 2022512, 149)
    ∷ (on_page 32831711 34829762 3156648 2153584, 25)
    ∷ (on_page 34142431 34829762 3353256 2415728, 1)
    ∷ (on_page 35453151 34829762 3549864 2677872, 1)
    ∷ (on_page 36239583 34829762 3549864 2677872, 14)
    ∷ (on_page 37288159 34829762 3680936 2743408, 72)
    ∷ [])
told_by_tex = refl
