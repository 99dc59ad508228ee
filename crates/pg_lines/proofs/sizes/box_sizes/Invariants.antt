use Rattle.std.proofs.Common.{◌≡◌, ◌≤◌, length, take}
use Rattle.std.specs.Prelude.{drop}
use Rattle.pg_lines.specs.Printed.{sizes_of}
use Rattle.pg_lines.proofs.sizes.box_sizes.Given as goal

abbrev pub invariant-back : goal.invariant-back
invariant-back l = record {
  sizes : l.sizes ≡ sizes_of (drop (length l.rest) l.line);
  front : l.rest ≡ take (length l.rest) l.line;
  within : length l.rest ≤ length l.line;
}

abbrev pub decreases-back : goal.decreases-back
decreases-back l = length l.rest
