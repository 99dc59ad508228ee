use Rattle.std.proofs.Common.{◌≡◌, ◌∙◌, sym, arith}
use Rattle.pg_lines.proofs.Scan.{no_box_more}
use Rattle.pg_lines.proofs.ends.next_box.Goals as goal

pub front-preserved : goal.front-preserved
front-preserved c = record {
  low = omega (arith, c.front.invariant.low);
  high = omega (arith, c.front-test.true);
  none = no_box_more c.args.items.now c.args.start c.front.place c.index-items-place.result c.front.invariant.low
      c.front-test.true c.index-items-place.is c.front.invariant.none (sym c.is_box.ensures ∙ c.if-is_box.false);
}
