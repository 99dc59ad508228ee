-- How far columns go, and what edits touch, computed.
use Rattle.std.proofs.Common.{◌≡◌, refl, List, [], ◌∷◌, ℕ}
use Rattle.std.specs.Prelude.{map}
use Rattle.pg_list.specs.declared.blocks.Block.TheVariants.{One}
use Rattle.pg_list.specs.declared.galley.Edit.{Edit}
use Rattle.pg_list.specs.declared.item.Item.{Item}
use Rattle.pg_rules.specs.Legal.{document}
use Rattle.pg_rules.specs.Reach.{Reaches, touched}
use Rattle.pg_rules.proofs.Examples.{line, gap, plain, at, ten_lines, forced}

abbrev pub replaced : ℕ → ℕ → List Item → Edit
replaced n gone items = record { at = n; gone = gone; fresh = map One items }

-- ---- reach: from the first line of ten to the sixth, which is over; from the line behind a glue two further

start_reaches : Reaches (document ten_lines (plain 58)) (at 0) (at 11)
start_reaches = record { picks = []; size = 11; leads = refl; picked = refl; passes = refl }

second_reaches : Reaches (document ten_lines (plain 58)) (at 1) (at 13)
second_reaches = record { picks = []; size = 12; leads = refl; picked = refl; passes = refl }

-- a forced break is reached, and the end behind it is not looked at
forced_reaches : Reaches (document forced (plain 58)) (at 0) (at 1)
forced_reaches = record { picks = []; size = 1; leads = refl; picked = refl; passes = refl }

-- ---- touch

-- the last line of ten is written anew; a line in the midst; a line at the end, and a glue, which is no text
lines_touched : touched ten_lines.blocks (replaced 18 1 (line ∷ [])) ∷ touched ten_lines.blocks (replaced 4 1 (line ∷ []))
    ∷ touched ten_lines.blocks (replaced 19 0 (line ∷ [])) ∷ touched ten_lines.blocks (replaced 19 0 (gap ∷ [])) ∷ []
    ≡ 18 ∷ 4 ∷ 19 ∷ 19 ∷ []
lines_touched = refl

-- the last text goes or comes, so the end begins elsewhere
tails_touched : touched ten_lines.blocks (replaced 18 1 []) ∷ touched (map One (line ∷ gap ∷ gap ∷ [])) (replaced 3 0 (line ∷ []))
    ∷ touched (map One (line ∷ gap ∷ line ∷ [])) (replaced 0 3 []) ∷ touched [] (replaced 0 0 (line ∷ [])) ∷ []
    ≡ 17 ∷ 1 ∷ 0 ∷ 0 ∷ []
tails_touched = refl
