use Rattle.std.proofs.Common.{◌≡◌, ◌+ℤ◌, length}
use Rattle.std.specs.List.{list_all}
use Rattle.std.specs.Prelude.{int_lt}
use Rattle.pg_style.specs.declared.style.Run.{Run}
use Rattle.pg_alone.proofs.alone.are_below.Given as goal

abbrev pub invariant-runs : goal.invariant-runs
invariant-runs l = list_all (λ (run : Run). int_lt (l.height +ℤ run.extra) l.size) l.runs
    ≡ list_all (λ (run : Run). int_lt (l.height +ℤ run.extra) l.size) l.rest

abbrev pub decreases-runs : goal.decreases-runs
decreases-runs l = length l.rest
