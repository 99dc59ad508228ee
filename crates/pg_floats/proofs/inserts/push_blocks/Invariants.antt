use Rattle.std.proofs.Common.{◌≡◌, ◌++◌, ◌+◌, ◌≤◌, ◌^◌, length}
use Rattle.pg_list.specs.Counts.{item_count}
use Rattle.pg_floats.specs.Places.{places_from}
use Rattle.pg_floats.proofs.inserts.push_blocks.Given as goal

abbrev pub invariant-each : goal.invariant-each
invariant-each l =
    (l.out.items ++ places_from l.number l.index l.rest
    ≡ l.initial.out.items ++ places_from l.number l.first l.blocks)
    × (l.index + length l.rest ≤ 2 ^ 20) × (item_count l.rest ≤ 2 ^ 20)

abbrev pub decreases-each : goal.decreases-each
decreases-each l = length l.rest
