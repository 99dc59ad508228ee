use Rattle.std.proofs.Common.{◌≡◌, ◌-◌, map, ℕ}
use Rattle.std.specs.Prelude.{if◌then◌else◌}
use Rattle.std.specs.List.{range_with_len}
use Rattle.pg_rules.specs.Floats.{entry}
use Rattle.pg_floats.specs.Spots.{takes_of, takes_slot}
use Rattle.pg_layouts.proofs.limits.area_limits.Given as goal

abbrev pub invariant-loop-slot : goal.invariant-loop-slot
invariant-loop-slot l = l.counts ≡ map (λ (slot : ℕ). if takes_slot l.style (takes_of l.spot) slot
    then entry l.ceiling slot - entry l.before slot else 0) (range_with_len 0 l.slot)
