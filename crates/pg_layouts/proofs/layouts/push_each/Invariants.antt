use Rattle.std.proofs.Common.{◌≡◌, ◌++◌, map, take}
use Rattle.pg_layouts.specs.Layouts.{layout_of}
use Rattle.pg_layouts.proofs.layouts.push_each.Given as goal

abbrev pub invariant-loop-bottom : goal.invariant-loop-bottom
invariant-loop-bottom l = l.layouts.items ≡ l.initial.layouts.items
    ++ map (layout_of l.run l.wide l.top) (take l.bottom-index l.bottoms)
