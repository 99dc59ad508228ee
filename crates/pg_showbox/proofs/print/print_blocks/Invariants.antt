use Rattle.std.proofs.Common.{◌≡◌, ◌++◌, take}
use Rattle.std.specs.List.{flat_map}
use Rattle.pg_showbox.specs.Text.{block_text}
use Rattle.pg_scaled.specs.Scaled.{Grows}
use Rattle.pg_showbox.proofs.print.print_blocks.Given as goal

abbrev pub invariant-loop-block : goal.invariant-loop-block
invariant-loop-block l = record {
  text : l.out.items ≡ l.fn.out.items ++ flat_map block_text (take l.block-index l.blocks);
  grows : Grows l.fn.out.items l.out.items;
}
