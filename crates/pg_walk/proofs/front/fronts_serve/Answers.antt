use Rattle.std.proofs.Common.{subst, arith}
use Rattle.std.specs.List.{AllByRecursion}
use Rattle.pg_list.specs.Shapes.{IsBlock}
use Rattle.pg_list.proofs.Sizes.{blocks_le}
use Rattle.pg_rules.specs.Legal.{document}
use Rattle.pg_walk.proofs.Moved.{serve}
use Rattle.pg_walk.proofs.front.fronts_serve.Goals as goal

pub walk_is_a_space-requires-clause-few : goal.walk_is_a_space-requires-clause-few
walk_is_a_space-requires-clause-few c =
    let all = subst (AllByRecursion IsBlock) c.blocks-2.ensures.blocks c.as_slice.ensures.shape in
    let long = blocks_le c.args.galley.now.blocks all in
    let limit = c.blocks-2.ensures.limit in
    omega (arith, long, limit)

pub returns : goal.returns
returns c =
    serve (document c.args.galley.now c.args.style.now)
    (subst (AllByRecursion IsBlock) c.blocks-2.ensures.blocks c.as_slice.ensures.shape)
    c.walk_is_a_space.ensures.labels
