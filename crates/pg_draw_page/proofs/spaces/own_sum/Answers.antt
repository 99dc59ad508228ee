use Rattle.std.proofs.Common.{rules}
use Rattle.pg_drawing.proofs.Summed.{first_mark}
use Rattle.pg_draw_page.proofs.Sums.{own_more}
use Rattle.pg_draw_page.proofs.spaces.own_sum.Goals as goal

pub marks-preserved : goal.marks-preserved
marks-preserved c =
    let split = first_mark c.marks.rest.now c.mark-item.result (search rules) c.mark-item.is in
    record {
      sum = own_more c.marks.rest.now _ c.mark-item.result c.marks.sum.all c.add_own.new.self.all _ split
          c.add_own.ensures.all c.marks.invariant.sum;
      room = search rules;
    }
