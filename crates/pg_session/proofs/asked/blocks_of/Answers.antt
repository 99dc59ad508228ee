use Rattle.std.proofs.Common.{rules, arith}
use Rattle.std.specs.List.{AllByRecursion}
use Rattle.pg_list.specs.Shapes.{IsBlock}
use Rattle.pg_list.proofs.Sizes.{blocks_le}
use Rattle.pg_session.proofs.asked.blocks_of.Goals as goal

pub returns-clause-few : goal.returns-clause-few
returns-clause-few c =
    let shape : AllByRecursion IsBlock c.args.galley.now.blocks = search rules in
    omega (arith, blocks_le c.args.galley.now.blocks shape, c.blocks-2.ensures.limit)
