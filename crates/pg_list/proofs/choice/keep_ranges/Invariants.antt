use Rattle.std.proofs.Common.{take}
use Rattle.std.specs.List.{AllByRecursion}
use Rattle.pg_list.specs.Shapes.{HasItemsInRange}
use Rattle.pg_list.proofs.choice.keep_ranges.Given as goal

abbrev pub invariant-loop-variant : goal.invariant-loop-variant
invariant-loop-variant l = AllByRecursion HasItemsInRange (take l.variant-index l.variants)
