use Rattle.test_table.specs.NumbersLaws.{numbers_lawful, numbers_narrower}
use Rattle.test_table.proofs.meet_laws.Goals as goal

pub narrower_is_lawful-requires-clause-lawful : goal.narrower_is_lawful-requires-clause-lawful
narrower_is_lawful-requires-clause-lawful c = numbers_lawful c.args.space.now.last c.args.space.now.limit

pub narrower_is_lawful-requires-clause-narrower : goal.narrower_is_lawful-requires-clause-narrower
narrower_is_lawful-requires-clause-narrower c = numbers_narrower c.args.space.now.last

pub narrower_table_is_wide-requires-clause-lawful : goal.narrower_table_is_wide-requires-clause-lawful
narrower_table_is_wide-requires-clause-lawful c = numbers_lawful c.args.space.now.last c.args.space.now.limit

pub narrower_table_is_wide-requires-clause-narrower : goal.narrower_table_is_wide-requires-clause-narrower
narrower_table_is_wide-requires-clause-narrower c = numbers_narrower c.args.space.now.last
