use Rattle.std.proofs.Common.{arith, sym, ap, ◌∙◌, Bool, true}
use Rattle.std.specs.Prelude.{◌&&◌, not, if◌then◌else◌}
use Rattle.pg_list.specs.Shapes.{is_insert}
use Rattle.pg_column.specs.Passed.{raised}
use Rattle.pg_hops.specs.Leap.{asked, may_cross}
use Rattle.pg_hops.proofs.LeapOne.{leap_begun_by}
use Rattle.pg_hops.proofs.finding.leap_from.Goals as goal

pub ahead-preserved : goal.ahead-preserved
ahead-preserved c =
    let few = c.ahead-test.true in
    let count = c.count.ensures.value in
    let item = c.in-Some.item.now in
    let shift = c.ahead.added.shift in
    record {
      begun = leap_begun_by c.args.galley.now.blocks c.args.style.now.maxdepth c.args.from c.ahead.at
          c.next-at-in-ahead.result c.ahead.added c.add-in-ahead.new.self c.ahead.highest c.with_asked-highest.result
          item c.ahead.invariant.begun (omega (arith, few, count)) (sym c.in-Some.ensures.item)
          (ap (λ (b : Bool). not (is_insert item) && (if b then may_cross shift item else true))
          (sym c.is_break-is_break.ensures)
          ∙ (sym c.may_leap.ensures ∙ c.if-not-may_leap.false))
          c.next-at-in-ahead.ensures c.add-in-ahead.ensures.count c.add-in-ahead.ensures.value
          (c.with_asked-highest.ensures.value
          ∙ ap (λ (b : Bool). if b then raised c.ahead.highest (asked shift) else c.ahead.highest)
          c.is_break-is_break.ensures);
      size = c.with_asked-highest.ensures.size;
    }
