use Rattle.std.proofs.lemmas.Option.{IfSome_then}
use Rattle.pg_rooms.specs.Calls.{IsLike}
use Rattle.pg_rooms.specs.declared.calls.Call.{Call}
use Rattle.pg_rooms.proofs.Kept.{all_contain}
use Rattle.pg_rooms.proofs.calls.like_at.Goals as goal

pub returns-in-Some : goal.returns-in-Some
returns-in-Some c = IfSome_then c.like_by.result c.like_by.ensures (λ like same doc are. same doc
    (all_contain (λ (it : Call). IsLike doc it.like it.at) c.args.calls.now c.in-Some.call are.all c.in-Some.ensures))
