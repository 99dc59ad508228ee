use Rattle.std.proofs.Common.{sym, subst, List}
use Rattle.pg_sources.specs.Document.{doc_of}
use Rattle.pg_rooms.specs.Calls.{AreCalls}
use Rattle.pg_rooms.specs.declared.calls.Call.{Call}
use Rattle.pg_rooms.proofs.Called.{with_call}
use Rattle.pg_rooms.proofs.calls.add_call.Goals as goal

pub returns-clause-calls : goal.returns-clause-calls
returns-clause-calls c = λ are.
    let doc = doc_of c.args.sources.now in
    subst (λ (calls : List Call). AreCalls doc calls) (sym c.in_ok-insert.ensures.items)
    (with_call doc c.args.calls.now.items c.args.at (record { at = c.args.place; like = c.in_ok-like.like }) are
    c.in_ok-like.ensures)
