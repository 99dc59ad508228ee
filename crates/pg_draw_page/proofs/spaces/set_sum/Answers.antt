use Rattle.std.proofs.Common.{rules}
use Rattle.pg_drawing.proofs.Summed.{first_mark}
use Rattle.pg_draw_page.proofs.Sums.{set_more}
use Rattle.pg_draw_page.proofs.spaces.set_sum.Goals as goal

pub marks-preserved : goal.marks-preserved
marks-preserved c =
    let split = first_mark c.marks.rest.now c.mark-item.result (search rules) c.mark-item.is in
    record {
      sum = set_more c.marks.rest.now _ c.mark-item.result c.marks.sum.all c.add_set.new.self.all _ split
          c.add_set.ensures.all c.marks.invariant.sum;
      room = search rules;
    }
