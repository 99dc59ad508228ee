use Rattle.pg_candidates.proofs.Needed.{best_of_some}
use Rattle.pg_candidates.specs.Nears.{needed_in}
use Rattle.pg_candidates.specs.RoomEnds.{ends_of}
use Rattle.pg_rules.specs.Floats.{gap_stretch}
use Rattle.pg_rules.specs.Reach.{greatest_areas}
use Rattle.pg_sources.specs.Document.{doc_of}
use Rattle.law_walk.specs.Candidates.{text_ends}
use Rattle.pg_rooms.proofs.Added.{adds_room}
use Rattle.pg_rooms.proofs.place_ends.make_room.Goals as goal

pub returns : goal.returns
returns c =
    let doc = doc_of c.args.sources.now in
    let near = c.args.near.now in
    adds_room c.keep_room.result doc near c.args.room.now c.args.rooms.now.items c.keep_room.new.rooms.items
    c.args.calls.now.items.items c.keep_room.new.calls.items.items
    (λ cs right page calls are kept. kept cs near.picks
    (best_of_some (text_ends doc c.args.room.now cs)
    (text_ends doc c.args.room.now (needed_in c.args.room.now.size cs near.nears))
    (ends_of near.picks c.in_ok-ends.ends.items) (right.suffice c.args.room.now page.within)
    (c.in_ok-ends.ensures.best c.args.sources.now.galley.now (greatest_areas gap_stretch c.args.sources.now.style.now)
    page.within.stretch cs right.picks right.right)) page calls are)
    c.keep_room.ensures.has c.keep_room.ensures.keeps c.keep_room.ensures.right c.keep_room.ensures.calls
