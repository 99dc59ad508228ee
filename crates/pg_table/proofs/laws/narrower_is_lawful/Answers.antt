use Rattle.pg_table.proofs.Narrow.{narrow_lawful}
use Rattle.pg_table.proofs.Statements.{each_bettered}
use Rattle.pg_table.proofs.laws.narrower_is_lawful.Goals as goal

pub returns-clause-laws : goal.returns-clause-laws
returns-clause-laws g c = narrow_lawful _ _ c.requires.lawful _ c.requires.narrower

pub returns-clause-betters : goal.returns-clause-betters
returns-clause-betters g c = each_bettered _ _ c.requires.lawful _ c.requires.narrower
