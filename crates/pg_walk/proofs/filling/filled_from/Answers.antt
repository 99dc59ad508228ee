use Rattle.std.proofs.Common.{rules, ◌∙◌, subst, arith, w64}
use Rattle.std.specs.List.{AllByRecursion}
use Rattle.std.proofs.lemmas.Int.{to_z-of_z}
use Rattle.pg_list.specs.Shapes.{IsBlock}
use Rattle.pg_list.proofs.Sizes.{blocks_le}
use Rattle.pg_rules.specs.Ranges.{AreInRange}
use Rattle.pg_walk.proofs.Labels.{filled_at, filled_small}
use Rattle.pg_walk.proofs.filling.filled_from.Goals as goal

pub returns-clause-few : goal.returns-clause-few
returns-clause-few c =
    let all = subst (AllByRecursion IsBlock) c.blocks-2.ensures.blocks c.as_slice.ensures.shape in
    let long = blocks_le c.args.context.now.galley.now.blocks all in
    let limit = c.blocks-2.ensures.limit in
    omega (arith, long, limit)

pub returns-clause-table : goal.returns-clause-table
returns-clause-table c =
    let top = to_z-of_z w64 c.args.context.now.top (record { sfits = search rules }) in
    filled_at c.new-space.result.galley.now c.args.context.now.galley.now c.new-space.result.style.now c.args.context.now.style.now
    c.new-space.result.top c.args.context.now.top c.new-space.result.start c.args.start c.new-space.ensures.galley
    c.new-space.ensures.style (c.new-space.ensures.top ∙ top) c.new-space.ensures.start c.filled.result
    c.filled.ensures

pub returns-clause-small : goal.returns-clause-small
returns-clause-small c =
    let top = to_z-of_z w64 c.args.context.now.top (record { sfits = search rules }) in
    let all = subst (AllByRecursion IsBlock) c.blocks-2.ensures.blocks c.as_slice.ensures.shape in
    let range : AreInRange c.args.context.now.galley.now c.args.context.now.style.now =
    record { blocks = all; limit = c.blocks-2.ensures.limit; style_in = c.stays_in_range.ensures } in
    filled_small c.filled.result c.args.context.now.galley.now c.args.context.now.style.now c.args.context.now.top c.args.start range c.requires.own
    (filled_at c.new-space.result.galley.now c.args.context.now.galley.now c.new-space.result.style.now c.args.context.now.style.now
    c.new-space.result.top c.args.context.now.top c.new-space.result.start c.args.start c.new-space.ensures.galley
    c.new-space.ensures.style (c.new-space.ensures.top ∙ top) c.new-space.ensures.start c.filled.result
    c.filled.ensures)
