use Rattle.std.proofs.Common.{◌≡◌, ◌++◌, map}
use Rattle.std.specs.List.{range_with_len}
use Rattle.pg_fold.specs.Imposed.{sheet_of}
use Rattle.pg_fold.proofs.layout.push_signature.Given as goal

abbrev pub invariant-loop-sheet : goal.invariant-loop-sheet
invariant-loop-sheet l = l.sheets ≡ l.initial.sheets ++ map (sheet_of l.layout l.start) (range_with_len 0 l.sheet)
