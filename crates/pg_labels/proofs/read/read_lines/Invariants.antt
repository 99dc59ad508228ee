use Rattle.std.proofs.Common.{◌≡◌, ◌≤◌, ◌+◌, length}
use Rattle.std.specs.Option.{option_map}
use Rattle.pg_scan.specs.Parts.{parts_of}
use Rattle.pg_words.specs.EntriesLeft.{size_left}
use Rattle.pg_labels.specs.Reading.{run, lines_left}
use Rattle.pg_labels.proofs.read.read_lines.Given as goal

abbrev pub invariant-loop-rest : goal.invariant-loop-rest
invariant-loop-rest l = record {
  said : run l.fn.draft 1 (parts_of 10 l.text) ≡ run l.draft l.number (lines_left (option_map (λ t. t.now) l.rest));
  room : l.number + size_left (option_map (λ t. t.now) l.rest) ≤ length l.text + 2;
}

abbrev pub decreases-loop-rest : goal.decreases-loop-rest
decreases-loop-rest l = size_left (option_map (λ t. t.now) l.rest)
