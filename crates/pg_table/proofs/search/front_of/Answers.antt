use Rattle.std.proofs.Common.{arith}
use Rattle.pg_table.proofs.Fronts.{front_more, front_ends, front_all}
use Rattle.pg_table.proofs.search.front_of.Goals as goal

pub front-preserved : goal.front-preserved
front-preserved g c = record {
  within = omega (arith, c.front-test.true);
  low = front_more (g.S.Space.meaning c.args.space.now) c.args.below c.args.entries.now c.front.n
      c.index-entries-n.result (c.is_below.ensures.yes c.if-is_below.true) c.front.invariant.low;
}

pub returns-else-is_below : goal.returns-else-is_below
returns-else-is_below g c = front_ends (g.S.Space.meaning c.args.space.now) c.args.below c.args.entries.now
    c.front.n c.index-entries-n.result c.front-test.true
    (c.is_below.ensures.no c.if-is_below.false) c.front.invariant.low

pub returns-after-front : goal.returns-after-front
returns-after-front g c = front_all (g.S.Space.meaning c.args.space.now) c.args.below c.args.entries.now
    c.front.n c.front.invariant.within (omega (arith, c.front-test.false)) c.front.invariant.low
