use Rattle.std.proofs.Common.{◌≡◌, ◌≤◌, ◌++◌, length}
use Rattle.std.specs.Prelude.{reverse}
use Rattle.law_lines.specs.Variants.{way_items as way_items_of}
use Rattle.pg_lines.specs.Set.{set_ends}
use Rattle.pg_lines.proofs.lines.way_items.Given as goal

abbrev pub invariant-lines : goal.invariant-lines
invariant-lines l = record {
  set : l.out ++ set_ends l.rule l.items l.is_first l.start (reverse l.rest) ≡ way_items_of l.rule l.items l.ends;
  within : length l.rest ≤ length l.ends;
}

abbrev pub decreases-lines : goal.decreases-lines
decreases-lines l = length l.rest
