use Rattle.std.proofs.Common.{◌≡◌, drop}
use Rattle.toml.specs.View.{items_view}
use Rattle.pg_stylefile.specs.Values.{are_whole}
use Rattle.pg_stylefile.proofs.distance.are_whole_numbers.Given as goal

abbrev pub invariant-loop-value : goal.invariant-loop-value
invariant-loop-value l = are_whole (items_view l.values) ≡ are_whole (items_view (drop l.value-index l.values))
