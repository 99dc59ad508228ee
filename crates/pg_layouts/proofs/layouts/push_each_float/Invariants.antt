use Rattle.std.proofs.Common.{◌≡◌, ◌++◌, map, take}
use Rattle.pg_layouts.specs.Behind.{floats_alone}
use Rattle.pg_layouts.proofs.layouts.push_each_float.Given as goal

abbrev pub invariant-loop-top : goal.invariant-loop-top
invariant-loop-top l = l.layouts.items ≡ l.initial.layouts.items
    ++ map (floats_alone l.run l.wide l.none) (take l.top-index l.tops)
