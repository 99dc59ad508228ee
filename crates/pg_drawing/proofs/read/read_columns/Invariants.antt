use Rattle.std.proofs.Common.{◌≡◌, ◌+◌, ◌++◌, ◌∷◌, [], length, map}
use Rattle.std.specs.Option.{option_map_or}
use Rattle.pg_drawing.specs.Drawn.{column_of}
use Rattle.pg_drawing.specs.Pieces.{begins, cut, texts, told}
use Rattle.pg_drawing.specs.declared.pieces.Kind.TheVariants as at
use Rattle.pg_drawing.proofs.read.read_columns.Given as goal

abbrev pub invariant-columns : goal.invariant-columns
invariant-columns l = l.columns ++ map column_of (option_map_or (λ it. told it.0.now it.1.now
    ∷ cut (begins at.Column) (texts it.2.now)) l.next []) ≡ map column_of (cut (begins at.Column) (texts l.lines))

abbrev pub decreases-columns : goal.decreases-columns
decreases-columns l = option_map_or (λ it. 1 + length it.2.now) l.next 0
