use Rattle.std.proofs.Common.{◌≡◌, ◌++◌, ◌+◌, ◌≤◌, ◌^◌, length}
use Rattle.pg_floats.specs.Places.{places_in}
use Rattle.pg_floats.proofs.inserts.push_places.Given as goal

abbrev pub invariant-items : goal.invariant-items
invariant-items l =
    (l.out.items ++ places_in l.number l.place.block l.place.variant l.place.index l.rest
    ≡ l.initial.out.items ++ places_in l.number l.initial.place.block l.initial.place.variant l.initial.place.index
    l.initial.rest)
    × (l.place.index + length l.rest ≤ 2 ^ 20)

abbrev pub decreases-items : goal.decreases-items
decreases-items l = length l.rest
