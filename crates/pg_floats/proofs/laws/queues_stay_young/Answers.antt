use Rattle.pg_floats.proofs.Queues.{of_callout, of_placed}
use Rattle.pg_floats.proofs.laws.queues_stay_young.Goals as goal

pub returns-clause-callout : goal.returns-clause-callout
returns-clause-callout c = of_callout

pub returns-clause-placed : goal.returns-clause-placed
returns-clause-placed c = of_placed
