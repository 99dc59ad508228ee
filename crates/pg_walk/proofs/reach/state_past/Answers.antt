use Rattle.std.proofs.Common.{ap, subst, length, arith, w64}
use Rattle.std.specs.List.{AllByRecursion}
use Rattle.std.proofs.lemmas.Int.{to_z-of_z}
use Rattle.pg_list.specs.Shapes.{IsBlock}
use Rattle.pg_list.proofs.Sizes.{blocks_le}
use Rattle.pg_rules.specs.Legal.{document}
use Rattle.pg_hops.specs.View.{view}
use Rattle.pg_hops.proofs.Left.{first_left}
use Rattle.pg_walk.proofs.First.{place_within}
use Rattle.pg_walk.proofs.FurthestBlocks.{begun_if}
use Rattle.pg_walk.proofs.reach.state_past.Goals as goal

pub first-ahead-requires : goal.first-ahead-requires
first-ahead-requires c =
    let all = subst (AllByRecursion IsBlock) c.blocks-2.ensures.blocks c.as_slice.ensures.shape in
    let long = blocks_le c.args.galley.now.blocks all in
    let limit = c.blocks-2.ensures.limit in
    let at = place_within c.args.galley.now.blocks c.args.from c.requires.place in
    omega (arith, long, limit, at)

pub pass_on-passing-requires-clause-few : goal.pass_on-passing-requires-clause-few
pass_on-passing-requires-clause-few c =
    let left = first_left c.args.galley.now.blocks c.args.from in
    let same = ap length c.first-ahead.ensures.items in
    let limit = c.blocks-2.ensures.limit in
    let counts = c.nothing.ensures.counts in
    (omega (arith, left, same, limit, counts.0), omega (arith, left, same, limit, counts.1))

pub returns : goal.returns
returns c =
    begun_if (document c.args.galley.now c.args.style.now) c.args.top _
    (to_z-of_z w64 c.args.top (record { sfits = c.ranges.top.sfits })) c.args.from (view c.nothing.result)
    c.nothing.ensures.value _ c.first-ahead.ensures.items _ c.first-ahead.ensures.front c.pass_on-passing.result.passed
    c.pass_on-passing.result.front c.pass_on-passing.result.greatest c.pass_on-passing.ensures.reach
    c.pass_on-passing.ensures.past c.pass_on-passing.ensures.front
    (subst (AllByRecursion IsBlock) c.blocks-2.ensures.blocks c.as_slice.ensures.shape) c.blocks-2.ensures.limit
    c.requires.place c.pass_on-passing.ensures.style c.nothing.result.sums.count c.nothing.result.notes.count
    c.nothing.ensures.counts.0 c.nothing.ensures.counts.1 c.pass_on-passing.ensures.counts c.state_at.result
    c.state_at.ensures
