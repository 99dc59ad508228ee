-- Badness, breaks and reach, computed.
use Rattle.std.proofs.Common.{◌≡◌, refl, pos, true, false, List, [], ◌∷◌, Some, None}
use Rattle.std.specs.Prelude.{map}
use Rattle.pg_list.specs.declared.item.Item.{Item}
use Rattle.pg_list.specs.declared.item.Item.TheVariants.{Carry}
use Rattle.pg_list.specs.Badness.{badness}
use Rattle.pg_list.specs.Break.{break_penalty, passes_between}
use Rattle.pg_rules.specs.Reach.{is_over_at_most}
use Rattle.pg_rules.proofs.Examples.{line, lines, gap, kern, penalty, plain}

-- no excess, no glue, glue as much as the excess, twice as much excess, and the greatest ratio that is no 10000
badness_computes : badness (pos 0) (pos 0) ∷ badness (pos 1) (pos 0) ∷ badness (pos 100) (pos 100) ∷ badness (pos 2) (pos 1) ∷ badness (pos 1290) (pos 297) ∷ badness (pos 1291) (pos 297) ∷ []
    ≡ 0 ∷ 10000 ∷ 100 ∷ 800 ∷ 8189 ∷ 10000 ∷ []
badness_computes = refl

abbrev pub kerns_and_penalties : List Item
kerns_and_penalties = line ∷ kern ∷ gap ∷ kern ∷ line ∷ Carry [] ∷ gap ∷ gap ∷ penalty 10000 ∷ penalty 9999 ∷ []

-- a kern before glue, glue behind what is not discardable, a penalty below 10000, the end
breaks_stand_there : map (break_penalty kerns_and_penalties) (0 ∷ 1 ∷ 2 ∷ 3 ∷ 4 ∷ 5 ∷ 6 ∷ 7 ∷ 8 ∷ 9 ∷ 10 ∷ [])
    ≡ None ∷ Some (pos 0) ∷ None ∷ None ∷ None ∷ None ∷ Some (pos 0) ∷ None ∷ None ∷ Some (pos 9999) ∷ Some (pos 0) ∷ []
breaks_stand_there = refl

-- from the first of ten lines a column of 58 points goes as far as the gap behind the sixth, where it is over
ten_lines_reach : map (passes_between (lines 9) (is_over_at_most (plain 58) (lines 9))) (9 ∷ 10 ∷ 11 ∷ 12 ∷ 13 ∷ 19 ∷ []) ≡ true ∷ true ∷ true ∷ false ∷ false ∷ false ∷ []
ten_lines_reach = refl
