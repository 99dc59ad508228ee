use Rattle.std.proofs.Common.{length}
use Rattle.pg_rooms.specs.PlaceEnds.{AreGroups}
use Rattle.pg_moves.specs.Columns.{doc_at}
use Rattle.pg_moves.proofs.Stepped.{Going}
use Rattle.pg_moves.proofs.groups.add_groups.Given as goal

abbrev pub invariant-groups : goal.invariant-groups
invariant-groups g l = AreGroups (doc_at l.column) l.groups l.ends → AreGroups (doc_at l.column) l.left l.rest
    × Going (doc_at l.column) l.column.state.now (g.W.Wants.spares l.wants) l.column.near.now.picks
    l.column.laid.now.layout l.ends l.rest l.initial.steps l.steps

abbrev pub decreases-groups : goal.decreases-groups
decreases-groups g l = length l.left
