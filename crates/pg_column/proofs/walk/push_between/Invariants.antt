use Rattle.std.proofs.Common.{◌≡◌, ◌++◌, length}
use Rattle.pg_list.specs.Flat.{end_of, flat_items_at, is_same_place}
use Rattle.pg_column.proofs.Ahead.{IsSettled, Named}
use Rattle.pg_column.specs.Between.{behind, items_to}
use Rattle.pg_column.proofs.walk.push_between.Given as goal

abbrev pub invariant-ahead : goal.invariant-ahead
invariant-ahead l = record {
  settled : IsSettled l.galley.blocks l.at;
  named : Named l.galley.blocks l.at l.left;
  same : behind l.items.items ++ items_to l.is_end l.to (flat_items_at l.galley.blocks l.at l.left)
      ≡ behind l.fn.items.items ++ items_to (is_same_place l.to (end_of l.galley.blocks)) l.to
      (flat_items_at l.galley.blocks l.fn.start l.picks);
}

abbrev pub decreases-ahead : goal.decreases-ahead
decreases-ahead l = length (flat_items_at l.galley.blocks l.at l.left)
