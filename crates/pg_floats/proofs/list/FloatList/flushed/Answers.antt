use Rattle.std.proofs.Common.{[], sym, length, take}
use Rattle.pg_list.specs.Barrier.{up_to_barrier}
use Rattle.pg_list.specs.Flat.{flat}
use Rattle.pg_rules.specs.Floats.{sizes_of}
use Rattle.pg_floats.proofs.Called.{counted_some, counted_none}
use Rattle.pg_floats.proofs.list.FloatList.flushed.Goals as goal

pub returns-in-None-clause-value : goal.returns-in-None-clause-value
returns-in-None-clause-value c = λ style are. counted_none _ style
    (λ number. length (sizes_of number (flat (up_to_barrier (take c.args.block c.args.galley.now.blocks)) [])))
    c.args.self.now c.args.slot are (sym c.in-None.ensures.value)

pub returns-in-Some-clause-value : goal.returns-in-Some-clause-value
returns-in-Some-clause-value c = λ style are. counted_some _ style
    (λ number. length (sizes_of number (flat (up_to_barrier (take c.args.block c.args.galley.now.blocks)) [])))
    c.args.self.now c.args.slot c.flushed_in.result c.in-Some.floats.now are (sym c.in-Some.ensures.value)
    (c.flushed_in.ensures.value c.args.galley.now.blocks)
