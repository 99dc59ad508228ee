use Rattle.std.proofs.Common.{◌≡◌, ◌≤◌, ◌-◌, length, take, false}
use Rattle.std.specs.Prelude.{drop}
use Rattle.law_lines.specs.Lines.{holds_box}
use Rattle.pg_lines.proofs.ends.next_box.Given as goal

abbrev pub invariant-front : goal.invariant-front
invariant-front l = record {
  low : l.start ≤ l.place;
  high : l.place ≤ length l.items;
  none : holds_box (drop l.start (take l.place l.items)) ≡ false;
}

abbrev pub decreases-front : goal.decreases-front
decreases-front l = length l.items - l.place
