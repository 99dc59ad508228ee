use Rattle.std.proofs.Common.{◌≡◌, ◌++◌, take}
use Rattle.std.specs.List.{flat_map}
use Rattle.pg_showbox.specs.Text.{variant_text}
use Rattle.pg_scaled.specs.Scaled.{Grows}
use Rattle.pg_showbox.proofs.print.print_variants.Given as goal

abbrev pub invariant-loop-variant : goal.invariant-loop-variant
invariant-loop-variant l = record {
  text : l.out.items ≡ l.fn.out.items ++ flat_map variant_text (take l.variant-index l.variants);
  grows : Grows l.fn.out.items l.out.items;
}
