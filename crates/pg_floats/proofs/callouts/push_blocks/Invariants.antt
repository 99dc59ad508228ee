use Rattle.std.proofs.Common.{◌≡◌, ◌++◌, ◌+◌, ◌≤◌, ◌^◌, length}
use Rattle.std.specs.List.{AllByRecursion}
use Rattle.pg_list.specs.Shapes.{IsBlock}
use Rattle.pg_floats.specs.Callouts.{callouts_from, next_barrier}
use Rattle.pg_floats.proofs.callouts.push_blocks.Given as goal

abbrev pub invariant-each : goal.invariant-each
invariant-each l =
    (l.out ++ callouts_from l.number l.past l.index l.rest
    ≡ l.initial.out ++ callouts_from l.number l.past l.first l.blocks)
    × (l.index + length l.rest ≤ 2 ^ 20) × (l.barrier ≡ next_barrier l.past l.index l.rest)
    × AllByRecursion IsBlock l.rest

abbrev pub decreases-each : goal.decreases-each
decreases-each l = length l.rest
