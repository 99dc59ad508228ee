use Rattle.std.proofs.Common.{◌≡◌, ◌++◌, length}
use Rattle.pg_floats.specs.Callouts.{lists_from}
use Rattle.pg_floats.proofs.list.lists_of.Given as goal

abbrev pub invariant-each : goal.invariant-each
invariant-each l = l.lists.items ++ lists_from (l.before ++ l.fresh ++ l.behind) l.rest
    ≡ lists_from (l.before ++ l.fresh ++ l.behind) l.initial.rest

abbrev pub decreases-each : goal.decreases-each
decreases-each l = length l.rest
