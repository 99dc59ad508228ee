use Rattle.law_columns.proofs.ColumnContracts.{no_worse_follow, no_worse_done}
use Rattle.law_columns.proofs.column_laws.no_worse_simulates.Goals as goal

pub returns-clause-follow : goal.returns-clause-follow
returns-clause-follow c = no_worse_follow _ _ c.requires

pub returns-clause-done : goal.returns-clause-done
returns-clause-done c = no_worse_done _ _ c.requires
