-- Reaches and touched blocks of small galleys.
use Rattle.std.proofs.Common.{◌≡◌, refl, [], ◌∷◌}
use Rattle.pg_list.specs.declared.blocks.Block.TheVariants.{One}
use Rattle.pg_rules.specs.Legal.{document}
use Rattle.pg_rules.specs.Reach.{touched}
use Rattle.pg_rules.proofs.Examples.{at, line, plain, ten_lines}
use Rattle.law_space.specs.ReachAt.{reach_at}

-- ten lines: a page of 58 points holds five, and its end is the place behind the sixth
ten_lines-start : reach_at (document ten_lines (plain 58)) (at 0) ≡ 12
unfolding reach_at
ten_lines-start = refl

ten_lines-next : reach_at (document ten_lines (plain 58)) (at 1) ≡ 14
unfolding reach_at
ten_lines-next = refl

ten_lines-end : reach_at (document ten_lines (plain 58)) (at 19) ≡ 20
unfolding reach_at
ten_lines-end = refl

-- an edit of the last line touches its own block; one that adds lines, the tail before
last-touched : touched ten_lines.blocks (record { at = 18; gone = 1; fresh = One line ∷ [] }) ≡ 18
last-touched = refl

behind-touched : touched ten_lines.blocks (record { at = 19; gone = 0; fresh = One line ∷ [] }) ≡ 19
behind-touched = refl

-- what takes away the last box touches the box that is then the last
short-touched : touched ten_lines.blocks (record { at = 18; gone = 1; fresh = [] }) ≡ 17
short-touched = refl
