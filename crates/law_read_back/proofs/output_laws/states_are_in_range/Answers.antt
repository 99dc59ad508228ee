use Rattle.law_read_back.proofs.Contracts.{states_are_in_range}
use Rattle.law_read_back.proofs.output_laws.states_are_in_range.Goals as goal

pub returns : goal.returns
returns c = states_are_in_range c.args.galley.now c.args.style.now
    (record {
      blocks = c.blocks_of.ensures.shape;
      limit = c.blocks_of.ensures.count;
      style_in = c.stays_in_range.ensures;
    })
