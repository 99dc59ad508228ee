use Rattle.std.proofs.Common.{◌≡◌, ◌<◌, ◌+◌, ◌^◌, length}
use Rattle.pg_scan.specs.Lines.{raw_lines, joined}
use Rattle.pg_showbox.specs.State.{Sound}
use Rattle.pg_showbox.specs.Reading.{run}
use Rattle.pg_showbox.proofs.read.read_lines.Given as goal

abbrev pub invariant-lines : goal.invariant-lines
invariant-lines l = record {
  said : run l.is_file l.fn.state (joined l.wrap l.first (raw_lines l.text)) ≡ run l.is_file l.state
      (joined l.wrap l.number (raw_lines l.rest));
  count : l.number + length (raw_lines l.rest) ≡ l.first + length (raw_lines l.text);
  room : l.number + length l.rest < 2 ^ 32;
  sound : Sound l.state;
}

abbrev pub decreases-lines : goal.decreases-lines
decreases-lines l = length l.rest
