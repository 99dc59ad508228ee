use Rattle.std.proofs.Common.{subst, ◌<◌, ◌^◌}
use Rattle.std.specs.Prelude.{ℤ, nat_abs}
use Rattle.law_read_back.proofs.Contracts.{pages_read_back}
use Rattle.law_read_back.proofs.output_laws.pages_read_back.Goals as goal

pub returns : goal.returns
returns c = pages_read_back _ _
    (record {
      blocks = c.blocks_of.ensures.shape;
      limit = c.blocks_of.ensures.count;
      style_in = c.stays_in_range.ensures;
    })
    (subst (λ (z : ℤ). nat_abs z < 2 ^ 30) c.width.ensures.width c.width.ensures.in_range)
