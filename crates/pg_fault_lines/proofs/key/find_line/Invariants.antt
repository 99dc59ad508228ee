use Rattle.std.proofs.Common.{◌<◌, ◌+◌, ◌^◌, length}
use Rattle.pg_fault_lines.proofs.key.find_line.Given as goal

abbrev pub invariant-lines : goal.invariant-lines
invariant-lines l = l.at + length l.rest < 2 ^ 32

abbrev pub decreases-lines : goal.decreases-lines
decreases-lines l = length l.rest
