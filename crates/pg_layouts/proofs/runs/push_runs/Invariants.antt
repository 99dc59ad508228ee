use Rattle.std.proofs.Common.{◌≡◌, ◌++◌}
use Rattle.std.specs.List.{filter, flat_map, range_with_len}
use Rattle.pg_layouts.specs.Layouts.{takes_run}
use Rattle.pg_layouts.specs.Behind.{of_run}
use Rattle.pg_layouts.proofs.runs.push_runs.Given as goal

abbrev pub invariant-loop-run : goal.invariant-loop-run
invariant-loop-run l = l.layouts.items ≡ l.initial.layouts.items ++ flat_map
    (of_run l.search.kind l.search.style.now l.placed l.search.ceiling.now l.wides)
    (filter (takes_run l.must) (range_with_len 0 l.run))
