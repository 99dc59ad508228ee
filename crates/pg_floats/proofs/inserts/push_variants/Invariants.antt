use Rattle.std.proofs.Common.{◌≡◌, ◌++◌, ◌+◌, ◌≤◌, ◌^◌, length}
use Rattle.std.specs.List.{sum_by}
use Rattle.pg_list.specs.declared.variants.Variant.{Variant}
use Rattle.pg_floats.specs.Places.{places_among}
use Rattle.pg_floats.proofs.inserts.push_variants.Given as goal

abbrev pub invariant-each : goal.invariant-each
invariant-each l =
    (l.out.items ++ places_among l.number l.block l.index l.rest
    ≡ l.initial.out.items ++ places_among l.number l.block 0 l.variants)
    × (l.index + length l.rest ≤ 5) × (sum_by (λ (variant : Variant). length variant.items) l.rest ≤ 2 ^ 20)

abbrev pub decreases-each : goal.decreases-each
decreases-each l = length l.rest
