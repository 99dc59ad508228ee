use Rattle.std.proofs.Common.{◌≡◌, ◌+◌, ◌*◌, ◌≤◌, ◌^◌, length}
use Rattle.pg_floats.specs.Areas.{has_dealt, dealt_count, dealt_sizes}
use Rattle.pg_floats.proofs.area.deal.Given as goal

abbrev pub invariant-each : goal.invariant-each
invariant-each l =
    (has_dealt l.slot l.rest l.placed l.counts ≡ has_dealt 0 l.initial.rest l.placed l.counts)
    × (l.dealt.count + dealt_count l.slot l.rest l.placed l.counts ≡ dealt_count 0 l.initial.rest l.placed l.counts)
    × (l.dealt.sizes + dealt_sizes l.slot l.rest l.placed l.counts ≡ dealt_sizes 0 l.initial.rest l.placed l.counts)
    × (l.dealt.count ≤ 2 ^ 16 * l.slot)
    × (l.dealt.sizes ≤ 2 ^ 30 * l.dealt.count)
    × (l.slot + length l.rest ≡ length l.initial.rest)

abbrev pub decreases-each : goal.decreases-each
decreases-each l = length l.rest
