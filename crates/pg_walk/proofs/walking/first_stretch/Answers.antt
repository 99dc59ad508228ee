use Rattle.std.proofs.Common.{rules, ap, subst, length, arith, w64}
use Rattle.std.specs.List.{AllByRecursion}
use Rattle.std.proofs.lemmas.Int.{to_z-of_z}
use Rattle.pg_list.specs.Shapes.{IsBlock}
use Rattle.pg_list.proofs.Sizes.{blocks_le}
use Rattle.pg_hops.specs.View.{view}
use Rattle.pg_hops.proofs.Left.{first_left}
use Rattle.pg_walk.proofs.First.{first_owned, first_quiet, first_walked, place_within}
use Rattle.pg_walk.specs.Contexts.{doc_of}
use Rattle.pg_walk.proofs.walking.first_stretch.Goals as goal

pub first-ahead-requires : goal.first-ahead-requires
first-ahead-requires g c =
    let all = subst (AllByRecursion IsBlock) c.blocks-2.ensures.blocks c.as_slice.ensures.shape in
    let long = blocks_le c.args.context.now.galley.now.blocks all in
    let limit = c.blocks-2.ensures.limit in
    let at = place_within c.args.context.now.galley.now.blocks c.args.from c.requires.place in
    omega (arith, long, limit, at)

pub walk_on-requires-clause-few : goal.walk_on-requires-clause-few
walk_on-requires-clause-few g c =
    let left = first_left c.args.context.now.galley.now.blocks c.args.from in
    let same = ap length c.first-ahead.ensures.items in
    let limit = c.blocks-2.ensures.limit in
    let counts = c.nothing.ensures.counts in
    (omega (arith, left, same, limit, counts.0), omega (arith, left, same, limit, counts.1))

pub returns-clause-walked : goal.returns-clause-walked
returns-clause-walked g c =
    let doc = doc_of c.args.context.now in
    let all = subst (AllByRecursion IsBlock) c.blocks-2.ensures.blocks c.as_slice.ensures.shape in
    let top = to_z-of_z w64 c.args.context.now.top (record { sfits = search rules }) in
    first_walked c.walk_on.result doc c.args.context.now.top _ top c.args.from (view c.nothing.result) c.nothing.ensures.value _
    c.first-ahead.ensures.items _ c.first-ahead.ensures.front c.walk_on.ensures.past c.walk_on.ensures.front
    (first_owned c.walk_on.result doc c.args.context.now.top _ top all c.blocks-2.ensures.limit c.args.from
    c.requires.place (view c.nothing.result) c.nothing.ensures.value _ c.first-ahead.ensures.items _
    c.first-ahead.ensures.front c.nothing.result.sums.count c.nothing.result.notes.count c.nothing.ensures.counts.0
    c.nothing.ensures.counts.1 c.walk_on.ensures.past c.walk_on.ensures.front c.walk_on.ensures.style
    c.walk_on.ensures.counts)
    (first_quiet c.walk_on.result doc c.has_classes.ensures c.args.context.now.top _ top c.args.from (view c.nothing.result)
    c.nothing.ensures.value _ c.first-ahead.ensures.items _ c.first-ahead.ensures.front c.walk_on.ensures.past
    c.walk_on.ensures.reach c.walk_on.ensures.quiet)
