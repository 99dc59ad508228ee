use Rattle.std.proofs.Common.{sym, subst, List}
use Rattle.std.proofs.lemmas.Result.{IfOk-weaker}
use Rattle.pg_list.specs.declared.galley.Place.{Place}
use Rattle.pg_sources.specs.Document.{doc_of}
use Rattle.pg_rooms.specs.Calls.{AreCalls, IsLike}
use Rattle.pg_rooms.specs.declared.calls.Call.{Call}
use Rattle.pg_rooms.proofs.calls.like_beside.Goals as goal

pub returns-in-Some-clause-like : goal.returns-in-Some-clause-like
returns-in-Some-clause-like c = λ are.
    let doc = doc_of c.args.sources.now in
    c.in-Some.ensures doc (subst (λ (calls : List Call). AreCalls doc calls) (sym c.as_slice-2.ensures.value) are)

pub returns-in-None-clause-like : goal.returns-in-None-clause-like
returns-in-None-clause-like c =
    let doc = doc_of c.args.sources.now in
    IfOk-weaker c.add_beside.result (λ (like : Place). IsLike doc like c.args.place)
    (λ (like : Place). AreCalls doc c.args.calls.now.items.items → IsLike doc like c.args.place) (λ like own are. own)
    c.add_beside.ensures.like
