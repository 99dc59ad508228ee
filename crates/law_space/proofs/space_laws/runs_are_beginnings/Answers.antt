use Rattle.law_space.proofs.SpaceContracts.{runs_are_beginnings, beginnings_are_runs}
use Rattle.law_space.proofs.space_laws.runs_are_beginnings.Goals as goal

pub returns-clause-runs : goal.returns-clause-runs
returns-clause-runs c = runs_are_beginnings _ _ c.requires

pub returns-clause-beginnings : goal.returns-clause-beginnings
returns-clause-beginnings c = beginnings_are_runs _ _ c.requires
