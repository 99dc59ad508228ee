use Rattle.pg_table.proofs.Statements.{wide_labels, wide_best, wide_none}
use Rattle.pg_table.proofs.laws.narrower_table_is_wide.Goals as goal

pub returns-clause-labels : goal.returns-clause-labels
returns-clause-labels g c = wide_labels _ _ c.requires.lawful _ c.requires.narrower _ c.requires.table

pub returns-clause-best : goal.returns-clause-best
returns-clause-best g c = wide_best _ _ c.requires.lawful _ c.requires.narrower _ c.requires.table

pub returns-clause-none : goal.returns-clause-none
returns-clause-none g c = wide_none _ _ c.requires.lawful _ c.requires.narrower _ c.requires.table
