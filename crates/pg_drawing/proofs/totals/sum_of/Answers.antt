use Rattle.std.proofs.Common.{rules}
use Rattle.pg_drawing.proofs.Summed.{depth_more, first_mark, height_more}
use Rattle.pg_drawing.proofs.totals.sum_of.Goals as goal

pub marks-preserved : goal.marks-preserved
marks-preserved c =
    let split = first_mark c.marks.rest.now c.mark-item.result (search rules) c.mark-item.is in
    record {
      height = height_more c.marks.rest.now _ c.mark-item.result c.marks.sum.height c.add.new.self.height _ split
          c.add.ensures.height c.marks.invariant.height;
      depth = depth_more c.marks.rest.now _ c.mark-item.result c.marks.sum.depth c.add.new.self.depth _ split
          c.add.ensures.depth c.marks.invariant.depth;
      room = search rules;
    }
