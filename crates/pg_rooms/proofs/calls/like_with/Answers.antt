use Rattle.pg_rooms.proofs.calls.like_with.Goals as goal

pub returns : goal.returns
returns c = c.in_ok-calls_so_many.ensures c.if-not-branch.false
