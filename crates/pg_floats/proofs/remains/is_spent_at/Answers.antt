use Rattle.std.proofs.Common.{[]}
use Rattle.pg_list.specs.Flat.{blocks_at}
use Rattle.pg_floats.proofs.Spents.{named_none, steps_none}
use Rattle.pg_floats.proofs.remains.is_spent_at.Goals as goal

pub returns : goal.returns
returns c = λ style is.
    let blocks = c.args.galley.now.blocks in
    c.is_spent.ensures.column c.args.at [] 0 (named_none (blocks_at blocks c.args.at))
    (steps_none blocks c.all_blocks.ensures.shape c.args.at is)
