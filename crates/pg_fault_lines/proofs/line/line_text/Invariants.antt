use Rattle.std.proofs.Common.{◌≡◌, ◌<◌, ◌+◌, ◌^◌, length}
use Rattle.pg_scan.specs.Lines.{joined, raw_lines}
use Rattle.pg_fault_lines.specs.Spots.{line_at, numbered}
use Rattle.pg_fault_lines.proofs.line.line_text.Given as goal

abbrev pub invariant-lines : goal.invariant-lines
invariant-lines l = record {
  ahead : numbered l.number (joined l.wrap l.at (raw_lines l.rest)) ≡ line_at l.wrap l.number l.text;
  room : l.at + length l.rest < 2 ^ 32;
}

abbrev pub decreases-lines : goal.decreases-lines
decreases-lines l = length l.rest
