use Rattle.std.proofs.Common.{◌≡◌, ◌++◌, take}
use Rattle.std.specs.List.{flat_map}
use Rattle.pg_layouts.specs.Behind.{with_areas}
use Rattle.pg_layouts.proofs.runs.push_wides.Given as goal

abbrev pub invariant-loop-wide : goal.invariant-loop-wide
invariant-loop-wide l = l.layouts.items ≡ l.initial.layouts.items ++ flat_map
    (with_areas l.search.kind l.search.style.now l.placed l.search.ceiling.now l.run) (take l.wide-index l.wides)
