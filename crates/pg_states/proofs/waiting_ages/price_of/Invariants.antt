use Rattle.std.proofs.Common.{◌≡◌, ◌≤◌, ◌+◌, ◌*◌, ◌^◌, length, pos}
use Rattle.std.specs.Prelude.{◌+ℤ◌}
use Rattle.pg_states.specs.Lines.{paid_by}
use Rattle.pg_states.proofs.waiting_ages.price_of.Given as goal

abbrev pub invariant-ages : goal.invariant-ages
invariant-ages l = (pos l.price +ℤ paid_by l.table l.rest ≡ paid_by l.table l.ages)
    × ((l.price + 2 ^ 32 * length l.rest ≤ 2 ^ 32 * length l.ages) × (length l.rest ≤ length l.ages))

abbrev pub decreases-ages : goal.decreases-ages
decreases-ages l = length l.rest
