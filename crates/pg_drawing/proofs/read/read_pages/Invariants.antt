use Rattle.std.proofs.Common.{◌≡◌, ◌+◌, ◌++◌, ◌∷◌, [], length, map}
use Rattle.std.specs.Option.{option_map_or}
use Rattle.pg_drawing.specs.Drawn.{page_of}
use Rattle.pg_drawing.specs.Pieces.{begins, cut, texts, told}
use Rattle.pg_drawing.specs.declared.pieces.Kind.TheVariants as at
use Rattle.pg_drawing.proofs.read.read_pages.Given as goal

abbrev pub invariant-pages : goal.invariant-pages
invariant-pages l = l.pages ++ map page_of (option_map_or (λ it. told it.0.now it.1.now
    ∷ cut (begins at.Page) (texts it.2.now)) l.next []) ≡ map page_of (cut (begins at.Page) (texts l.lines))

abbrev pub decreases-pages : goal.decreases-pages
decreases-pages l = option_map_or (λ it. 1 + length it.2.now) l.next 0
