use Rattle.pg_list.specs.Places.{spliced}
use Rattle.pg_session.proofs.Faults.{few_floats, many_floats}
use Rattle.pg_session.proofs.asked.floats_after.Goals as goal

pub returns-in-Ok-clause-cause : goal.returns-in-Ok-clause-cause
returns-in-Ok-clause-cause c = few_floats (spliced c.args.galley.now.blocks c.args.edit.now) c.args.style.now
    c.in-Ok.ensures.1 c.in-Ok.ensures.2

pub returns-in-Err-Limit-clause-cause : goal.returns-in-Err-Limit-clause-cause
returns-in-Err-Limit-clause-cause c = many_floats (spliced c.args.galley.now.blocks c.args.edit.now)
    c.args.style.now c.in-Err-Limit.field-0 c.in-Err-Limit.count c.in-Err-Limit.field-0-is c.in-Err-Limit.ensures
