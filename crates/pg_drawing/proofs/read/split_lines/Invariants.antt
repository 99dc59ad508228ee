use Rattle.std.proofs.Common.{◌≡◌, ◌++◌, []}
use Rattle.std.specs.Option.{option_map, option_map_or}
use Rattle.pg_scan.specs.Parts.{parts_of}
use Rattle.pg_words.specs.EntriesLeft.{size_left}
use Rattle.pg_drawing.specs.Pieces.{texts}
use Rattle.pg_drawing.proofs.read.split_lines.Given as goal

abbrev pub invariant-lines : goal.invariant-lines
invariant-lines l = texts l.lines.items ++ option_map_or (λ t. parts_of 10 t.now) l.rest [] ≡ parts_of 10 l.text

abbrev pub decreases-lines : goal.decreases-lines
decreases-lines l = size_left (option_map (λ t. t.now) l.rest)
