use Rattle.std.proofs.Common.{◌≡◌, ◌++◌, length}
use Rattle.std.specs.List.{flat_map}
use Rattle.pg_pieces.specs.Pieces.{letter_text}
use Rattle.pg_pieces.proofs.letters.print_text.Given as goal

abbrev pub invariant-bytes : goal.invariant-bytes
invariant-bytes l = l.out.items ++ flat_map (letter_text l.letters) l.rest ≡ l.fn.out.items ++ flat_map (letter_text l.letters) l.text

abbrev pub decreases-bytes : goal.decreases-bytes
decreases-bytes l = length l.rest
