use Rattle.std.proofs.Common.{◌≡◌, length}
use Rattle.pg_pages.specs.Printed.{box_on}
use Rattle.pg_column.specs.Between.{behind}
use Rattle.pg_pages.proofs.text.from_box.Given as goal

abbrev pub invariant-front : goal.invariant-front
invariant-front l = box_on (behind l.rest) ≡ box_on (behind l.items)

abbrev pub decreases-front : goal.decreases-front
decreases-front l = length l.rest
