use Rattle.std.proofs.Common.{◌≡◌, ◌++◌, length, true}
use Rattle.pg_tell.specs.Lines.{changes_from}
use Rattle.pg_tell.proofs.changes.print_each.Given as goal

abbrev pub invariant-changes : goal.invariant-changes
invariant-changes l = l.out.items ++ changes_from l.form l.is_first l.rest ≡ l.fn.out.items ++ changes_from l.form true l.changes

abbrev pub decreases-changes : goal.decreases-changes
decreases-changes l = length l.rest
