use Rattle.pg_states.proofs.Both.{missed, passed}
use Rattle.pg_states.proofs.testing.passes_test.Goals as goal

pub returns-then-has_column : goal.returns-then-has_column
returns-then-has_column c = passed c.has_place.result _ _ c.has_place.ensures c.if-has_place.true c.has_page.result
    (passed c.has_column.result _ _ c.has_column.ensures c.if-has_column.true c.has_page.result c.has_page.ensures)

pub returns-else-has_column : goal.returns-else-has_column
returns-else-has_column c = passed c.has_place.result _ _ c.has_place.ensures c.if-has_place.true c.has_column.result
    (missed c.has_column.result _ _ c.has_column.ensures c.if-has_column.false)

pub returns-else-has_place : goal.returns-else-has_place
returns-else-has_place c = missed c.has_place.result _ _ c.has_place.ensures c.if-has_place.false
