use Rattle.std.proofs.Common.{◌≡◌, ◌-◌, ℕ}
use Rattle.pg_rules.specs.Floats.{entry}
use Rattle.pg_states.proofs.Zeros.{written}
use Rattle.pg_states.proofs.counts.excess_counts.Given as goal

abbrev pub invariant-loop-slot : goal.invariant-loop-slot
invariant-loop-slot l = l.counts ≡ written (λ (slot : ℕ). entry l.a slot - entry l.b slot) l.slots l.slot
