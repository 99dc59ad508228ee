use Rattle.std.proofs.Common.{◌≡◌, length}
use Rattle.std.specs.Prelude.{◌==◌}
use Rattle.pg_list.specs.Flat.{picked_variants}
use Rattle.pg_column.proofs.span.are_named.Given as goal

abbrev pub invariant-choices : goal.invariant-choices
invariant-choices l = record {
  same : (length (picked_variants l.rest l.left) == length l.left) ≡ (length (picked_variants l.blocks l.picks) ==
      length l.picks);
}

abbrev pub decreases-choices : goal.decreases-choices
decreases-choices l = length l.rest
