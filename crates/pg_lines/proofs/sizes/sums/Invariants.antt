use Rattle.std.proofs.Common.{◌≡◌, take}
use Rattle.pg_lines.specs.Sums.{sums_of}
use Rattle.pg_lines.proofs.sizes.sums.Given as goal

abbrev pub invariant-loop-item : goal.invariant-loop-item
invariant-loop-item l = l.sums ≡ sums_of (take l.item-index l.line)
