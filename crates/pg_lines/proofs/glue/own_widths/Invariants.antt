use Rattle.std.proofs.Common.{◌≡◌, ◌++◌, length}
use Rattle.std.specs.List.{flat_map}
use Rattle.law_lines.specs.Boxes.{own_width}
use Rattle.pg_lines.proofs.glue.own_widths.Given as goal

abbrev pub invariant-items : goal.invariant-items
invariant-items l = l.widths.items ++ flat_map own_width l.rest ≡ flat_map own_width l.items

abbrev pub decreases-items : goal.decreases-items
decreases-items l = length l.rest
