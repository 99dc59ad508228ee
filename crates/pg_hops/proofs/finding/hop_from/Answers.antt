use Rattle.std.proofs.Common.{arith, sym, ◌∙◌}
use Rattle.pg_hops.proofs.OneMore.{begun_on}
use Rattle.pg_hops.proofs.finding.hop_from.Goals as goal

pub ahead-preserved : goal.ahead-preserved
ahead-preserved c =
    let few = c.ahead-test.true in
    let count = c.count.ensures.value in
    record {
      begun = begun_on c.args.galley.now.blocks c.args.style.now.maxdepth c.args.from c.ahead.at
          c.next-at-in-ahead.result c.ahead.added c.add-in-ahead.new.self c.in-Some.item.now c.ahead.invariant.begun
          (omega (arith, few, count)) (sym c.in-Some.ensures.item) (sym c.ends_here.ensures ∙ c.if-ends_here.false)
          c.next-at-in-ahead.ensures c.add-in-ahead.ensures.count c.add-in-ahead.ensures.value;
    }
