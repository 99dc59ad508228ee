use Rattle.std.proofs.Common.{arith}
use Rattle.pg_command.proofs.WordLemmas.{number_taken}
use Rattle.pg_command.proofs.options.line_tolerance.Goals as goal

pub overflow_cast-result : goal.overflow_cast-result
overflow_cast-result c =
    let taken = number_taken 0 10000 c.as_bytes.result.now c.in_ok-tolerance.tolerance c.in_ok-tolerance.ensures in
    record { fits = omega (arith, taken.1) }

pub returns-clause-in_range : goal.returns-clause-in_range
returns-clause-in_range c =
    (number_taken 0 10000 c.as_bytes.result.now c.in_ok-tolerance.tolerance c.in_ok-tolerance.ensures).1
