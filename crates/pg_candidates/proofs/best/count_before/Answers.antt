use Rattle.std.proofs.Common.{◌∙◌, arith, sym}
use Rattle.pg_candidates.proofs.Putting.{point_behind}
use Rattle.pg_candidates.proofs.best.count_before.Goals as goal

pub returns-else-not-is_before-clause-point : goal.returns-else-not-is_before-clause-point
returns-else-not-is_before-clause-point c = point_behind c.args.end.now c.args.ends.now c.back.at _
    (omega (arith, c.back-test.true)) c.back.invariant.within (sym c.is_before.ensures ∙ c.if-not-is_before.false)
    c.back.invariant.behind
