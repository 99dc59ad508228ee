use Rattle.std.proofs.Common.{◌≡◌, ◌++◌, length}
use Rattle.std.specs.List.{prefix_len}
use Rattle.pg_scaled.specs.Scaled.{Grows}
use Rattle.pg_scan.specs.Lines.{dotted, is_no_feed}
use Rattle.pg_scan.proofs.bodies.print_lines.Given as goal

abbrev pub invariant-lines : goal.invariant-lines
invariant-lines l = record {
  text : l.out.items ++ dotted l.rest ≡ l.fn.out.items ++ dotted l.fn.body;
  grows : Grows l.fn.out.items l.out.items;
  len : l.len ≡ prefix_len is_no_feed l.rest;
}

abbrev pub decreases-lines : goal.decreases-lines
decreases-lines l = length l.rest
