use Rattle.pg_sources.specs.Document.{doc_of}
use Rattle.pg_rooms.proofs.Called.{some_like}
use Rattle.pg_rooms.proofs.calls.like_near.Goals as goal

pub returns : goal.returns
returns c =
    let doc = doc_of c.args.sources.now in
    let own = c.in_ok-before.ensures in
    c.one_of.ensures doc
    (some_like doc c.args.place c.in_ok-before.before c.in_ok-first.first own c.in_ok-first.ensures)
    (some_like doc c.args.place c.in_ok-before.before c.in_ok-next.next own c.in_ok-next.ensures)
