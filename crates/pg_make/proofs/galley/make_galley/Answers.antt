use Rattle.std.proofs.Common.{arith, ap, ◌≡◌}
use Rattle.pg_list.specs.Counts.{item_count}
use Rattle.pg_make.specs.Generated.{made_blocks}
use Rattle.pg_make.proofs.Paragraphs.{blocks_few}
use Rattle.pg_make.proofs.galley.make_galley.Goals as goal

pub of-requires-clause-limit : goal.of-requires-clause-limit
of-requires-clause-limit c =
    let e : item_count c.in-Ok.blocks ≡ item_count (made_blocks c.args.count) = ap item_count c.in-Ok.ensures in
    omega (arith, e, blocks_few c.args.count, c.if-count-gt2000.false)
