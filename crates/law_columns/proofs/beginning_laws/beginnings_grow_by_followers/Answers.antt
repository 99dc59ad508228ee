use Rattle.law_columns.proofs.BeginningContracts.{pushed, beginnings_follow}
use Rattle.law_columns.proofs.beginning_laws.beginnings_grow_by_followers.Goals as goal

pub returns-clause-pushed : goal.returns-clause-pushed
returns-clause-pushed c = pushed _ _ c.requires

pub returns-clause-arises : goal.returns-clause-arises
returns-clause-arises c = beginnings_follow _ _ c.requires
