use Rattle.std.proofs.Common.{◌≡◌, ◌++◌, length}
use Rattle.std.specs.List.{flat_map}
use Rattle.law_lines.specs.Boxes.{elastic}
use Rattle.pg_lines.proofs.glue.elastics.Given as goal

abbrev pub invariant-items : goal.invariant-items
invariant-items l = l.list.items ++ flat_map (elastic l.sense) l.rest ≡ flat_map (elastic l.sense) l.items

abbrev pub decreases-items : goal.decreases-items
decreases-items l = length l.rest
