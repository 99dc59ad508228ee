use Rattle.pg_floats.proofs.History.{counts_history}
use Rattle.pg_floats.proofs.laws.queues_count_history.Goals as goal

pub returns : goal.returns
returns c = counts_history
