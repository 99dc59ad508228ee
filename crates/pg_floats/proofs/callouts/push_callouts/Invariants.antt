use Rattle.std.proofs.Common.{◌≡◌, ◌++◌, length}
use Rattle.std.specs.List.{AllByRecursion}
use Rattle.pg_list.specs.Ranges.{IsItemInRange}
use Rattle.pg_floats.specs.Callouts.{callouts_in}
use Rattle.pg_floats.proofs.callouts.push_callouts.Given as goal

abbrev pub invariant-items : goal.invariant-items
invariant-items l = (l.out ++ callouts_in l.number l.block l.barrier l.rest ≡ l.initial.out
    ++ callouts_in l.number l.block l.barrier l.items) × AllByRecursion IsItemInRange l.rest

abbrev pub decreases-items : goal.decreases-items
decreases-items l = length l.rest
