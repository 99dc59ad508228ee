use Rattle.std.proofs.Common.{◌≡◌, ◌≤◌, ◌+◌, length}
use Rattle.std.specs.Option.{option_map}
use Rattle.pg_scan.specs.Parts.{parts_of}
use Rattle.pg_words.specs.EntriesLeft.{size_left}
use Rattle.pg_labels.specs.Reading.{lines_left}
use Rattle.law_check.specs.Faults.{first_difference}
use Rattle.pg_labelcheck.proofs.lines.first_other_line.Given as goal

abbrev pub invariant-loop-rest : goal.invariant-loop-rest
invariant-loop-rest l = record {
  differ : first_difference 1 (parts_of 10 l.text) (parts_of 10 l.other)
      ≡ first_difference l.number (lines_left (option_map (λ t. t.now) l.rest))
      (lines_left (option_map (λ t. t.now) l.other_rest));
  room : l.number + size_left (option_map (λ t. t.now) l.rest) ≤ length l.text + 2;
}

abbrev pub decreases-loop-rest : goal.decreases-loop-rest
decreases-loop-rest l = size_left (option_map (λ t. t.now) l.rest)
