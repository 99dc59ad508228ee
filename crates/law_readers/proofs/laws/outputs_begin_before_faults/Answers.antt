use Rattle.law_readers.proofs.Begun.{begins_before, begins_none}
use Rattle.law_readers.proofs.laws.outputs_begin_before_faults.Goals as goal

pub returns-clause-before : goal.returns-clause-before
returns-clause-before c = begins_before

pub returns-clause-at : goal.returns-clause-at
returns-clause-at c = begins_none
