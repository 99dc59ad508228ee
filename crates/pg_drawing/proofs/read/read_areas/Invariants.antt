use Rattle.std.proofs.Common.{◌≡◌, ◌+◌, ◌++◌, ◌∷◌, [], length, map}
use Rattle.std.specs.Option.{option_map_or}
use Rattle.pg_drawing.specs.Drawn.{area_of}
use Rattle.pg_drawing.specs.Pieces.{begins, cut, texts, told}
use Rattle.pg_drawing.specs.declared.pieces.Kind.TheVariants as at
use Rattle.pg_drawing.proofs.read.read_areas.Given as goal

abbrev pub invariant-areas : goal.invariant-areas
invariant-areas l = l.areas ++ map area_of (option_map_or (λ it. told it.0.now it.1.now
    ∷ cut (begins at.Area) (texts it.2.now)) l.next []) ≡ map area_of (cut (begins at.Area) (texts l.lines))

abbrev pub decreases-areas : goal.decreases-areas
decreases-areas l = option_map_or (λ it. 1 + length it.2.now) l.next 0
