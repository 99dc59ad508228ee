use Rattle.std.proofs.Common.{◌≡◌, take}
use Rattle.std.specs.List.{flat_map}
use Rattle.pg_layouts.specs.Counts.{grown}
use Rattle.pg_layouts.proofs.counting.grow_all.Given as goal

abbrev pub invariant-loop-counts : goal.invariant-loop-counts
invariant-loop-counts l = l.longer.items ≡ flat_map (grown l.most l.limit) (take l.counts-index l.lists)
