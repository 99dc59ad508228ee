use Rattle.std.proofs.Common.{◌≡◌, ◌≤◌, ◌*◌, take}
use Rattle.pg_rules.specs.Floats.{total_count}
use Rattle.pg_floats.proofs.counts.total.Given as goal

abbrev pub invariant-loop-count : goal.invariant-loop-count
invariant-loop-count l = (l.total ≡ total_count (take l.count-index l.counts)) × (l.total ≤ 65535 * l.count-index)
