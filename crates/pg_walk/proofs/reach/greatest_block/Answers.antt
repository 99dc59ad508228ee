use Rattle.std.proofs.Common.{rules, ◌≡◌, ◌∙◌, ap, sym, subst, length, [], arith, IfOk, ℤ, w64}
use Rattle.std.specs.List.{AllByRecursion}
use Rattle.std.proofs.lemmas.Bool.{eqb-true}
use Rattle.std.proofs.lemmas.Int.{to_z-of_z}
use Rattle.pg_lemmas.proofs.Lists.{no_items}
use Rattle.pg_list.specs.Shapes.{IsBlock}
use Rattle.pg_list.proofs.Sizes.{blocks_le}
use Rattle.pg_hops.specs.View.{view}
use Rattle.pg_hops.proofs.Left.{first_left}
use Rattle.law_walk.specs.Walk.{variants_at}
use Rattle.pg_walk.specs.Furthest.{GoesTo}
use Rattle.pg_walk.proofs.First.{place_within}
use Rattle.pg_walk.specs.Blocks.{IsBegun}
use Rattle.pg_walk.proofs.FurthestBlocks.{alone, begun, by_picks, stops}
use Rattle.pg_walk.specs.Contexts.{doc_of}
use Rattle.pg_walk.proofs.reach.greatest_block.Goals as goal

pub first-ahead-requires : goal.first-ahead-requires
first-ahead-requires c =
    let all = subst (AllByRecursion IsBlock) c.blocks-2.ensures.blocks c.as_slice.ensures.shape in
    let long = blocks_le c.args.context.now.galley.now.blocks all in
    let limit = c.blocks-2.ensures.limit in
    let at = place_within c.args.context.now.galley.now.blocks c.args.from c.requires.place in
    omega (arith, long, limit, at)

pub pass_on-passing-requires-clause-few : goal.pass_on-passing-requires-clause-few
pass_on-passing-requires-clause-few c =
    let left = first_left c.args.context.now.galley.now.blocks c.args.from in
    let same = ap length c.first-ahead.ensures.items in
    let limit = c.blocks-2.ensures.limit in
    let counts = c.nothing.ensures.counts in
    (omega (arith, left, same, limit, counts.0), omega (arith, left, same, limit, counts.1))

pub returns-in_default : goal.returns-in_default
returns-in_default c =
    stops (doc_of c.args.context.now) c.args.context.now.top _
    (to_z-of_z w64 c.args.context.now.top (record { sfits = search rules })) c.args.from (view c.nothing.result)
    c.nothing.ensures.value _ c.first-ahead.ensures.items _ c.first-ahead.ensures.front c.pass_on-passing.result.passed
    c.pass_on-passing.result.front c.pass_on-passing.result.greatest c.pass_on-passing.ensures.reach
    c.pass_on-passing.ensures.past c.pass_on-passing.ensures.front (sym c.state_at.ensures ∙ c.in_default.is)

pub returns-then-is_empty : goal.returns-then-is_empty
returns-then-is_empty c =
    let empty : length c.variants_at.result.now ≡ 0 = eqb-true _ _ (sym c.is_empty.ensures ∙ c.if-is_empty.true) in
    let none : variants_at c.args.context.now.galley.now.blocks c.in-Some.start.block ≡ [] =
    sym c.variants_at.ensures.variants ∙ no_items c.variants_at.result.now empty in
    alone (doc_of c.args.context.now) c.args.context.now.top _
    (to_z-of_z w64 c.args.context.now.top (record { sfits = search rules })) c.args.from (view c.nothing.result)
    c.nothing.ensures.value _ c.first-ahead.ensures.items _ c.first-ahead.ensures.front c.pass_on-passing.result.passed
    c.pass_on-passing.result.front c.pass_on-passing.result.greatest c.pass_on-passing.ensures.reach
    c.pass_on-passing.ensures.past c.pass_on-passing.ensures.front c.in-Some.start
    (sym c.state_at.ensures ∙ c.in-Some.is) none

pub furthest-requires-clause-own : goal.furthest-requires-clause-own
furthest-requires-clause-own c =
    let is : IsBegun (doc_of c.args.context.now) c.args.context.now.top c.args.from c.in-Some.start =
    begun (doc_of c.args.context.now) c.args.context.now.top _
    (to_z-of_z w64 c.args.context.now.top (record { sfits = search rules })) c.args.from (view c.nothing.result)
    c.nothing.ensures.value _ c.first-ahead.ensures.items _ c.first-ahead.ensures.front c.pass_on-passing.result.passed
    c.pass_on-passing.result.front c.pass_on-passing.result.greatest c.pass_on-passing.ensures.reach
    c.pass_on-passing.ensures.past c.pass_on-passing.ensures.front
    (subst (AllByRecursion IsBlock) c.blocks-2.ensures.blocks c.as_slice.ensures.shape) c.blocks-2.ensures.limit
    c.requires.place c.pass_on-passing.ensures.style c.nothing.result.sums.count c.nothing.result.notes.count
    c.nothing.ensures.counts.0 c.nothing.ensures.counts.1 c.pass_on-passing.ensures.counts c.in-Some.start
    (sym c.state_at.ensures ∙ c.in-Some.is) in
    is.own

pub returns : goal.returns
returns c =
    let top = to_z-of_z w64 c.args.context.now.top (record { sfits = search rules }) in
    let is : IsBegun (doc_of c.args.context.now) c.args.context.now.top c.args.from c.in-Some.start =
    begun (doc_of c.args.context.now) c.args.context.now.top _ top c.args.from (view c.nothing.result)
    c.nothing.ensures.value _ c.first-ahead.ensures.items _ c.first-ahead.ensures.front c.pass_on-passing.result.passed
    c.pass_on-passing.result.front c.pass_on-passing.result.greatest c.pass_on-passing.ensures.reach
    c.pass_on-passing.ensures.past c.pass_on-passing.ensures.front
    (subst (AllByRecursion IsBlock) c.blocks-2.ensures.blocks c.as_slice.ensures.shape) c.blocks-2.ensures.limit
    c.requires.place c.pass_on-passing.ensures.style c.nothing.result.sums.count c.nothing.result.notes.count
    c.nothing.ensures.counts.0 c.nothing.ensures.counts.1 c.pass_on-passing.ensures.counts c.in-Some.start
    (sym c.state_at.ensures ∙ c.in-Some.is) in
    by_picks (doc_of c.args.context.now) c.args.context.now.top _ top c.args.from (view c.nothing.result)
    c.nothing.ensures.value _ c.first-ahead.ensures.items _ c.first-ahead.ensures.front c.pass_on-passing.result.passed
    c.pass_on-passing.result.front c.pass_on-passing.result.greatest c.pass_on-passing.ensures.reach
    c.pass_on-passing.ensures.past c.pass_on-passing.ensures.front c.furthest.result c.in-Some.start is
    (subst (λ (z : ℤ). IfOk c.furthest.result (GoesTo (doc_of c.args.context.now) z c.in-Some.start
    c.pass_on-passing.result.greatest)) (sym top) c.furthest.ensures)
