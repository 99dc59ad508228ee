use Rattle.std.proofs.Common.{◌∙◌, sym, arith, length, ◌-◌}
use Rattle.std.proofs.lemmas.List.{length-take-le}
use Rattle.pg_lines.proofs.NearLaws.{last_fails, last_passes}
use Rattle.pg_lines.proofs.near.box_end.Goals as goal

pub returns-then-is_box : goal.returns-then-is_box
returns-then-is_box c =
    sym (c.ends.invariant.same ∙ last_passes c.ends.rest.now c.last-item.result c.in-len1-up.len_at_least
    c.last-item.is (sym c.is_box.ensures ∙ c.if-is_box.true))

pub ends-preserved : goal.ends-preserved
ends-preserved c = record {
  same = c.ends.invariant.same ∙ last_fails c.ends.rest.now c.last-item.result c.in-len1-up.len_at_least
      c.last-item.is (sym c.is_box.ensures ∙ c.if-is_box.false);
  within = omega (arith, length-take-le (length c.ends.rest.now - 1) c.ends.rest.now (omega arith));
}
