use Rattle.std.proofs.Common.{subst, sym}
use Rattle.pg_cover.specs.Covered.{LeastBehind}
use Rattle.pg_cover.proofs.Least.{behind_more, own_behind}
use Rattle.pg_cover.proofs.cover.least_open.Goals as goal

pub covers_step-is_covered-requires-clause-to : goal.covers_step-is_covered-requires-clause-to
covers_step-is_covered-requires-clause-to g c =
    own_behind _ _ _ _ _ _ _ _ c.in-Some.ensures.steps c.loop-step.invariant c.requires.steps

pub loop-step-preserved-in-Some : goal.loop-step-preserved-in-Some
loop-step-preserved-in-Some g c = subst (LeastBehind _ _ _ _ _) (sym c.least_by-least.ensures)
    (behind_more _ _ _ _ _ _ _ _ _ c.in-Some.ensures.steps c.covers_step-is_covered.ensures c.loop-step.invariant)

pub loop-step-preserved : goal.loop-step-preserved
loop-step-preserved g c = subst (LeastBehind _ _ _ _ _) (sym c.least_by-least.ensures)
    (behind_more _ _ _ _ _ _ _ _ _ c.in-Some.ensures.steps c.covers_step-is_covered.ensures c.loop-step.invariant)
