use Rattle.std.proofs.Common.{◌≡◌, ◌≤◌, ◌-◌, length}
use Rattle.pg_lines.proofs.Scan.{IsScanned}
use Rattle.pg_lines.proofs.ends.ends_from.Given as goal

abbrev pub invariant-along : goal.invariant-along
invariant-along l = record {
  low : l.first ≤ l.place;
  high : l.place ≤ length l.items;
  scan : IsScanned l.rule l.items l.start l.first l.place l.sums l.found;
}

abbrev pub decreases-along : goal.decreases-along
decreases-along l = length l.items - l.place
