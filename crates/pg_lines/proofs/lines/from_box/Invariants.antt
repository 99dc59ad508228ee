use Rattle.std.proofs.Common.{◌≡◌, length}
use Rattle.law_lines.specs.Lines.{from_box as from_box_of}
use Rattle.pg_lines.proofs.lines.from_box.Given as goal

abbrev pub invariant-items : goal.invariant-items
invariant-items l = from_box_of l.rest ≡ from_box_of l.items

abbrev pub decreases-items : goal.decreases-items
decreases-items l = length l.rest
