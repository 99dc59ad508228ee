use Rattle.std.proofs.Common.{◌≡◌, ◌≤◌, length, take}
use Rattle.std.specs.Prelude.{drop}
use Rattle.pg_lines.specs.Ahead.{fall_of, falls_of}
use Rattle.pg_lines.proofs.ahead.falls.Given as goal

abbrev pub invariant-back : goal.invariant-back
invariant-back l = record {
  falls : l.falls.items ≡ falls_of (drop (length l.rest) l.items);
  fall : l.fall ≡ fall_of (drop (length l.rest) l.items);
  front : l.rest ≡ take (length l.rest) l.items;
  within : length l.rest ≤ length l.items;
}

abbrev pub decreases-back : goal.decreases-back
decreases-back l = length l.rest
