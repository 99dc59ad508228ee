use Rattle.pg_states.proofs.Both.{missed, passed}
use Rattle.pg_states.proofs.testing.has_rest.Goals as goal

pub returns-then-has_fields : goal.returns-then-has_fields
returns-then-has_fields c = passed c.has_fields.result _ _ c.has_fields.ensures c.if-has_fields.true
    c.has_floats.result c.has_floats.ensures

pub returns-else-has_fields : goal.returns-else-has_fields
returns-else-has_fields c = missed c.has_fields.result _ _ c.has_fields.ensures c.if-has_fields.false
