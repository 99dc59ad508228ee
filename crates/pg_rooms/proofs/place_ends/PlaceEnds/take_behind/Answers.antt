use Rattle.std.proofs.Common.{sym}
use Rattle.pg_rooms.proofs.Kept.{none_by}
use Rattle.pg_rooms.proofs.place_ends.PlaceEnds.take_behind.Goals as goal

pub returns-then-is_none-clause-behind : goal.returns-then-is_none-clause-behind
returns-then-is_none-clause-behind c = sym (none_by c.args.self.now.behind c.is_none.result c.is_none.ensures
    c.if-is_none.true)

pub returns-then-is_none-clause-none : goal.returns-then-is_none-clause-none
returns-then-is_none-clause-none c = none_by c.args.self.now.behind c.is_none.result c.is_none.ensures c.if-is_none.true
