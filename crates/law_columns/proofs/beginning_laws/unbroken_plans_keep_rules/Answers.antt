use Rattle.law_columns.proofs.BeginningContracts.{unbroken_keep_rules, prefixes_keep_rules, legal_are_done}
use Rattle.law_columns.proofs.beginning_laws.unbroken_plans_keep_rules.Goals as goal

pub returns-clause-breach : goal.returns-clause-breach
returns-clause-breach c = unbroken_keep_rules _ _ c.requires

pub returns-clause-prefix : goal.returns-clause-prefix
returns-clause-prefix c = prefixes_keep_rules _ _ c.requires

pub returns-clause-legal : goal.returns-clause-legal
returns-clause-legal c = legal_are_done _ _ c.requires
