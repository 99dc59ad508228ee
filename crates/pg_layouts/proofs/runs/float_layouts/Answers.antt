use Rattle.pg_layouts.proofs.Answered.{on_floats}
use Rattle.pg_layouts.proofs.Fits.{short_of}
use Rattle.pg_layouts.proofs.runs.float_layouts.Goals as goal

pub invariant_of-search : goal.invariant_of-search
invariant_of-search c = record {
  count = c.requires.slots;
  few = c.requires.few;
  short = short_of c.args.ceiling.now c.type_inv.ceiling;
}

pub layouts_of-requires : goal.layouts_of-requires
layouts_of-requires c = c.as_slice.ensures

pub returns : goal.returns
returns c = on_floats (λ layouts. layouts.items) c.layouts_of.result c.args.style.now c.args.state.now
    c.args.ceiling.now c.layouts_of.ensures
