use Rattle.std.proofs.Common.{ap, ◌+◌}
use Rattle.pg_scaled.proofs.Grown.{grows_on}
use Rattle.pg_marks.proofs.Printed.{text_more}
use Rattle.pg_marks.proofs.print.print_head_lines.Goals as goal

pub loop-head-preserved : goal.loop-head-preserved
loop-head-preserved c = record {
  text = text_more c.args.heads.now c.loop-head.head-index c.head-item.result c.loop-head.number
      c.args.out.now.items c.loop-head.out.items c.print_head.new.out.items c.loop-head-test.true c.head-item.is
      c.loop-head.invariant.number c.loop-head.invariant.text c.in_ok-print_head.ensures.ok;
  number = ap (λ n. n + 1) c.loop-head.invariant.number;
  grows = grows_on c.args.out.now.items c.loop-head.out.items c.print_head.new.out.items c.loop-head.invariant.grows
      c.in_ok-print_head.ensures.grows;
}
