use Rattle.std.proofs.Common.{ap, sym, ◌∙◌, take}
use Rattle.pg_list.specs.GalleyValue.{GalleyValue}
use Rattle.pg_rules.specs.Reach.{touched}
use Rattle.pg_session.proofs.Right.{stays_right}
use Rattle.pg_session.proofs.parts.edits_leave_right.Goals as goal

pub returns-clause-right : goal.returns-clause-right
returns-clause-right c old edit range is = stays_right old c.args.new.now c.args.style.now edit is range
    c.stay_in_range.ensures (c.edits_agree.ensures.edits old.blocks)
    (c.edits_agree.ensures.less old.blocks c.args.new.now.blocks)
    (c.pages_agree.ensures old c.args.new.now c.args.style.now range c.stay_in_range.ensures)

pub returns-clause-front : goal.returns-clause-front
returns-clause-front c old edit is = (c.edits_agree.ensures.edits old.blocks edit).same
    ∙ ap (λ (g : GalleyValue). take (touched old.blocks edit) g.blocks) (sym is)
