use Rattle.std.proofs.Common.{take}
use Rattle.std.specs.List.{flat_map}
use Rattle.pg_sources.specs.Document.{doc_of}
use Rattle.pg_rooms.specs.PlaceEnds.{ArePlaceEnds}
use Rattle.pg_moves.specs.Stepping.{all_steps_in}
use Rattle.pg_moves.specs.Thinned.{Adds}
use Rattle.pg_moves.proofs.texts.add_all.Given as goal

abbrev pub invariant-loop-it : goal.invariant-loop-it
invariant-loop-it g l = ArePlaceEnds (doc_of l.opening.sources.now) l.opening.state.now.place l.kept →
    Adds (g.W.Wants.spares l.wants) l.initial.steps
    (flat_map (all_steps_in (doc_of l.opening.sources.now) l.opening.state.now l.kept) (take l.it-index l.laid)) l.steps
