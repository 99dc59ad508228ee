use Rattle.std.proofs.Common.{sym, length}
use Rattle.pg_list.specs.Flat.{items_before}
use Rattle.pg_rules.specs.Floats.{sizes_of}
use Rattle.pg_floats.proofs.Called.{counted_some, counted_none}
use Rattle.pg_floats.proofs.list.FloatList.called.Goals as goal

pub returns-in-None : goal.returns-in-None
returns-in-None c = λ style are. counted_none _ style
    (λ number. length (sizes_of number (items_before c.args.galley.now.blocks c.args.place))) c.args.self.now c.args.slot
    are (sym c.in-None.ensures.value)

pub returns-in-Some : goal.returns-in-Some
returns-in-Some c = λ style are. counted_some _ style
    (λ number. length (sizes_of number (items_before c.args.galley.now.blocks c.args.place))) c.args.self.now c.args.slot
    c.called_in.result c.in-Some.floats.now are (sym c.in-Some.ensures.value)
    (c.called_in.ensures c.args.galley.now.blocks)
