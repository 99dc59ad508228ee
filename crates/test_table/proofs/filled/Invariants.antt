use Rattle.pg_table.specs.Label.{IsTable}
use Rattle.test_table.specs.Numbers.{numbers}
use Rattle.test_table.proofs.filled.Given as goal

abbrev pub invariant-loop : goal.invariant-loop
invariant-loop g l = IsTable (numbers l.space.last) l.table
