use Rattle.std.proofs.Common.{◌∙◌}
use Rattle.pg_lines.proofs.Going.{ends}
use Rattle.pg_lines.proofs.galley.break_lines.Goals as goal

pub returns-in_err-add : goal.returns-in_err-add
returns-in_err-add g c =
    ends c.args.rule.now c.args.paras.now c.paragraphs.made c.paragraphs.rest.now c.as_slice.result.now _
    c.in_err-add.field-0.0 c.from_residual.result c.from_residual.ensures.1 c.in-len1-up.len_at_least
    (c.as_slice.ensures.items ∙ c.para-item.is) c.paragraphs.invariant.goes c.in_err-add.ensures.err
