use Rattle.std.proofs.Common.{◌≡◌, ◌++◌, replicate}
use Rattle.pg_pages.proofs.gaps.push_times.Given as goal

abbrev pub invariant-loop : goal.invariant-loop
invariant-loop l = l.gaps.items ≡ l.initial.gaps.items ++ replicate l.counter l.gap
