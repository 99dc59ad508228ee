use Rattle.std.proofs.Common.{◌∙◌, sym, arith, length, ◌-◌}
use Rattle.std.proofs.lemmas.List.{length-take-le}
use Rattle.pg_list.specs.Places.{is_solid_block}
use Rattle.pg_list.proofs.Sizes.{last_passes, last_fails}
use Rattle.pg_list.proofs.walk.solid_of.Goals as goal

pub returns-then-block_is_solid : goal.returns-then-block_is_solid
returns-then-block_is_solid c =
    sym (c.ends.invariant.same ∙ last_passes is_solid_block c.ends.rest.now c.last-item.result c.in-len1-up.len_at_least c.last-item.is (sym c.block_is_solid.ensures ∙ c.if-block_is_solid.true))

pub ends-preserved : goal.ends-preserved
ends-preserved c = record {
  same = c.ends.invariant.same ∙ last_fails is_solid_block c.ends.rest.now c.last-item.result c.in-len1-up.len_at_least c.last-item.is (sym c.block_is_solid.ensures ∙ c.if-block_is_solid.false);
  within = omega (arith, length-take-le (length c.ends.rest.now - 1) c.ends.rest.now (omega arith));
}
