use Rattle.std.proofs.Common.{◌≡◌, ◌≤◌, ◌+◌, false, length}
use Rattle.pg_scan.specs.Lines.{raw_lines, has_point}
use Rattle.pg_edits.specs.Script.{steps_from}
use Rattle.pg_edits.proofs.Steps.{then_later}
use Rattle.pg_edits.proofs.read.read_steps.Given as goal

abbrev pub invariant-lines : goal.invariant-lines
invariant-lines l = record {
  said : steps_from 1 (raw_lines l.text) ≡ then_later l.script (steps_from l.number (raw_lines l.rest));
  front : has_point l.rest ≡ false;
  room : l.number + length l.rest ≤ length l.text + 1;
}

abbrev pub decreases-lines : goal.decreases-lines
decreases-lines l = length l.rest
