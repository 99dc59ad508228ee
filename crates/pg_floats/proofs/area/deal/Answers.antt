use Rattle.pg_floats.proofs.AreaSums.{dealt_end}
use Rattle.pg_floats.proofs.area.deal.Goals as goal

pub returns : goal.returns
returns c =
    dealt_end c.args.list.now c.each.rest.now c.each.slot c.args.placed.now c.args.counts.now c.each.dealt
    c.in_default.len_below c.requires.few
    c.each.invariant.0 c.each.invariant.1 c.each.invariant.2 c.each.invariant.4
