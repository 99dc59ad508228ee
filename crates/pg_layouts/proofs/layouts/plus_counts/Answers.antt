use Rattle.pg_layouts.proofs.Fits.{on_sums}
use Rattle.pg_layouts.proofs.layouts.plus_counts.Goals as goal

pub returns : goal.returns
returns c = on_sums c.args.style.now c.args.slots c.args.a.now c.args.b.now c.plus.result c.requires.slots
    c.requires.fit c.plus.ensures
