use Rattle.pg_session.proofs.Faults.{later_fault}
use Rattle.pg_session.proofs.asked.ask.Goals as goal

pub returns-clause-cause : goal.returns-clause-cause
returns-clause-cause c = later_fault c.args.galley.now c.args.style.now c.args.edit.now c.floats_after.result
    c.in_ok-may_splice.ensures.cause c.floats_after.ensures.cause
