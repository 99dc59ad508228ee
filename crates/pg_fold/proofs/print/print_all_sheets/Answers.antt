use Rattle.std.proofs.Common.{ap, ◌+◌}
use Rattle.pg_scaled.proofs.Grown.{grows_on}
use Rattle.pg_fold.proofs.Printed.{text_more}
use Rattle.pg_fold.proofs.print.print_all_sheets.Goals as goal

pub loop-sheet-preserved : goal.loop-sheet-preserved
loop-sheet-preserved c = record {
  text = text_more c.args.sheets.now c.loop-sheet.sheet-index c.sheet-item.result c.loop-sheet.number
      c.args.out.now.items c.loop-sheet.out.items c.print_sheet.new.out.items c.loop-sheet-test.true c.sheet-item.is
      c.loop-sheet.invariant.number c.loop-sheet.invariant.text c.in_ok-print_sheet.ensures.ok;
  number = ap (λ n. n + 1) c.loop-sheet.invariant.number;
  grows = grows_on c.args.out.now.items c.loop-sheet.out.items c.print_sheet.new.out.items c.loop-sheet.invariant.grows
      c.in_ok-print_sheet.ensures.grows;
}
