use Rattle.std.proofs.Common.{◌≡◌, ◌++◌, take}
use Rattle.pg_showbox.specs.Text.{items_text}
use Rattle.pg_scaled.specs.Scaled.{Grows}
use Rattle.pg_showbox.proofs.print.print_items.Given as goal

abbrev pub invariant-loop-item : goal.invariant-loop-item
invariant-loop-item l = record {
  text : l.out.items ≡ l.fn.out.items ++ items_text (take l.item-index l.items);
  grows : Grows l.fn.out.items l.out.items;
}
