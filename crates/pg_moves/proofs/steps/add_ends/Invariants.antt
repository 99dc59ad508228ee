use Rattle.std.proofs.Common.{length}
use Rattle.std.specs.List.{AllByRecursion}
use Rattle.pg_moves.specs.Columns.{IsBehindIt, MayEnd, doc_at}
use Rattle.pg_moves.specs.Outdone.{AreSpared}
use Rattle.pg_moves.proofs.Stepped.{Going}
use Rattle.pg_moves.proofs.steps.add_ends.Given as goal

abbrev pub invariant-ends : goal.invariant-ends
invariant-ends g l = record {
  behind : IsBehindIt l.column l.settled l.behind;
  spared : AreSpared (g.W.Wants.spares l.wants) l.behind;
  going : AllByRecursion (MayEnd l.column l.settled) l.ends → AllByRecursion (MayEnd l.column l.settled) l.rest
      × Going (doc_at l.column) l.column.state.now (g.W.Wants.spares l.wants) l.column.near.now.picks
      l.column.laid.now.layout l.ends l.rest l.initial.steps l.steps;
}

abbrev pub decreases-ends : goal.decreases-ends
decreases-ends g l = length l.rest
