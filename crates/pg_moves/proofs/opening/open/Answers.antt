use Rattle.pg_sources.specs.Document.{doc_of}
use Rattle.pg_rooms.proofs.Called.{no_calls}
use Rattle.pg_rooms.proofs.Kept.{begun}
use Rattle.pg_moves.proofs.AllSteps.{all_made}
use Rattle.pg_moves.proofs.opening.open.Goals as goal

pub returns-clause-moves : goal.returns-clause-moves
returns-clause-moves c = all_made (doc_of c.args.sources.now) c.args.state.now c.open_by.result _
    (begun (doc_of c.args.sources.now) c.args.state.now.place c.new-kept.result c.in_ok-walk.walk _
    c.new-kept.ensures.walk c.new-kept.ensures.listed c.new-kept.ensures.rooms c.new-kept.ensures.calls c.new-kept.ensures.behind c.in_ok-walk.ensures.near
    (no_calls (doc_of c.args.sources.now) c.none.result.items.items c.none.ensures))
    c.open_by.ensures.moves

pub walk_place-requires-clause-hops : goal.walk_place-requires-clause-hops
walk_place-requires-clause-hops c =
    c.empty-index.ensures c.args.sources.now.galley.now.blocks c.args.sources.now.style.now.maxdepth

pub open_by-requires-clause-layouts : goal.open_by-requires-clause-layouts
open_by-requires-clause-layouts c = c.none-2.ensures (doc_of c.args.sources.now)
