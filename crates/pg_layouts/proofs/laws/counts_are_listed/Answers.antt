use Rattle.pg_layouts.proofs.Contracts.{all_counts}
use Rattle.pg_layouts.proofs.laws.counts_are_listed.Goals as goal

pub returns : goal.returns
returns c = all_counts
