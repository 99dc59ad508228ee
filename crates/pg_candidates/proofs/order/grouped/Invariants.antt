use Rattle.std.proofs.Common.{◌<◌, ℕ}
use Rattle.law_walk.specs.Best.{IsAmong}
use Rattle.pg_candidates.specs.Groups.{indices_in}
use Rattle.pg_candidates.proofs.order.grouped.Given as goal

abbrev pub invariant-loop-at : goal.invariant-loop-at
invariant-loop-at l = record {
  among : (i : ℕ) → i < l.at → IsAmong i (indices_in l.groups.items);
}
