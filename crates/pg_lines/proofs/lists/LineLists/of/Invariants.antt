use Rattle.std.proofs.Common.{◌≡◌, ◌≤◌, ◌+◌, ◌-◌, length, map}
use Rattle.std.specs.List.{range_with_len}
use Rattle.pg_lines.specs.Ends.{ends_from}
use Rattle.pg_lines.proofs.lists.LineLists.of.Given as goal

abbrev pub invariant-places : goal.invariant-places
invariant-places l = record {
  lists : l.lists.items ≡ map (ends_from l.rule l.items) (range_with_len 0 l.start);
  within : l.start ≤ length l.items + 1;
}

abbrev pub decreases-places : goal.decreases-places
decreases-places l = (length l.items + 1) - l.start
