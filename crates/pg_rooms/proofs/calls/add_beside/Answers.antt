use Rattle.std.proofs.Common.{sym, subst, ◌∙◌, List}
use Rattle.pg_sources.specs.Document.{doc_of}
use Rattle.pg_rooms.specs.Calls.{AreCalls, IsLike}
use Rattle.pg_rooms.specs.declared.calls.Call.{Call}
use Rattle.pg_rooms.proofs.Called.{with_call}
use Rattle.pg_rooms.proofs.calls.add_beside.Goals as goal

pub returns-clause-like : goal.returns-clause-like
returns-clause-like c = record { same = sym (c.in_ok-calls_so_many.ensures c.if-not-branch.false ∙ c.requires.before) }

pub returns-clause-calls : goal.returns-clause-calls
returns-clause-calls c = λ are.
    let doc = doc_of c.args.sources.now in
    let own : IsLike doc c.args.like c.args.place = returns-clause-like c in
    subst (λ (calls : List Call). AreCalls doc calls) (sym c.in_ok-insert.ensures.items)
    (with_call doc c.args.calls.now.items c.args.at (record { at = c.args.place; like = c.args.like }) are own)
