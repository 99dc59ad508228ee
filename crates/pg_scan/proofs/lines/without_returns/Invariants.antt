use Rattle.std.proofs.Common.{◌≡◌, ◌≤◌, length, take}
use Rattle.pg_scan.specs.Lines.{trimmed}
use Rattle.pg_scan.proofs.lines.without_returns.Given as goal

abbrev pub invariant-returns : goal.invariant-returns
invariant-returns l = record {
  trimmed : trimmed (take l.len l.line) ≡ trimmed l.line;
  within : l.len ≤ length l.line;
}

abbrev pub decreases-returns : goal.decreases-returns
decreases-returns l = l.len
