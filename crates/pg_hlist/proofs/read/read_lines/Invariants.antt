use Rattle.std.proofs.Common.{◌≡◌, ◌<◌, ◌+◌, ◌^◌, length}
use Rattle.std.specs.Prelude.{None}
use Rattle.pg_scan.specs.Lines.{raw_lines, joined}
use Rattle.pg_hlist.specs.Reading.{run}
use Rattle.pg_hlist.proofs.read.read_lines.Given as goal

abbrev pub invariant-lines : goal.invariant-lines
invariant-lines l = record {
  said : run l.fn.draft (joined None 1 (raw_lines l.text)) ≡ run l.draft (joined None l.number (raw_lines l.rest));
  room : l.number + length l.rest < 2 ^ 32;
}

abbrev pub decreases-lines : goal.decreases-lines
decreases-lines l = length l.rest
