use Rattle.std.proofs.Common.{◌+◌, subst, arith}
use Rattle.std.specs.List.{AllByRecursion}
use Rattle.pg_list.specs.Shapes.{IsBlock}
use Rattle.pg_list.proofs.Sizes.{blocks_le}
use Rattle.pg_rules.specs.Legal.{document}
use Rattle.pg_rules.specs.Reach.{IsReach}
use Rattle.law_walk.proofs.Reach.{reach_within}
use Rattle.pg_walk.proofs.FurthestBlocks.{tells}
use Rattle.pg_walk.proofs.reach.one_more.Goals as goal

pub overflow_add-result : goal.overflow_add-result
overflow_add-result c =
    let doc = document c.args.galley.now c.args.style.now in
    let all = subst (AllByRecursion IsBlock) c.blocks-2.ensures.blocks c.as_slice.ensures.shape in
    let long = blocks_le doc.blocks all in
    let limit = c.blocks-2.ensures.limit in
    let reach : IsReach doc c.args.from (c.args.block + 1) =
    tells doc c.walk_tells_reach.ensures.labels c.walk_tells_reach.ensures.stretch c.args.from c.requires.place
    c.args.block c.requires.greatest in
    let within = reach_within doc all c.stays_in_range.ensures c.args.from c.requires.place _ reach in
    record { fits = omega (arith, long, limit, within) }

pub returns-clause-reach : goal.returns-clause-reach
returns-clause-reach c =
    tells (document c.args.galley.now c.args.style.now) c.walk_tells_reach.ensures.labels
    c.walk_tells_reach.ensures.stretch c.args.from c.requires.place c.args.block c.requires.greatest
