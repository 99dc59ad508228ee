use Rattle.pg_states.proofs.Both.{missed, passed}
use Rattle.pg_states.proofs.testing.has_page.Goals as goal

pub returns-then-has_run : goal.returns-then-has_run
returns-then-has_run c = passed c.has_side.result _ _ c.has_side.ensures c.if-has_side.true c.has_rest.result
    (passed c.has_run.result _ _ c.has_run.ensures c.if-has_run.true c.has_rest.result c.has_rest.ensures)

pub returns-else-has_run : goal.returns-else-has_run
returns-else-has_run c = passed c.has_side.result _ _ c.has_side.ensures c.if-has_side.true c.has_run.result
    (missed c.has_run.result _ _ c.has_run.ensures c.if-has_run.false)

pub returns-else-has_side : goal.returns-else-has_side
returns-else-has_side c = missed c.has_side.result _ _ c.has_side.ensures c.if-has_side.false
