use Rattle.std.proofs.Common.{◌≡◌, ◌++◌, length}
use Rattle.pg_pages.specs.PageText.{inserted}
use Rattle.pg_column.specs.Between.{behind}
use Rattle.pg_pages.proofs.areas.push_bodies.Given as goal

abbrev pub invariant-items : goal.invariant-items
invariant-items l = behind l.bodies.items ++ inserted l.number l.rest ≡ behind l.fn.bodies.items ++ inserted l.number l.items

abbrev pub decreases-items : goal.decreases-items
decreases-items l = length l.rest
