use Rattle.std.proofs.Common.{◌∙◌, ap, true}
use Rattle.pg_rules.specs.Floats.{floats, gap_shrink, gap_stretch}
use Rattle.pg_rules.specs.Room.{checked_give}
use Rattle.pg_style.specs.Values.{StyleValue}
use Rattle.pg_pages.proofs.seats.top_give.Goals as goal

pub returns-clause-stretch : goal.returns-clause-stretch
returns-clause-stretch c = λ blocks those are.
    c.area_give.ensures.stretch blocks those are
    ∙ ap (λ (style : StyleValue). checked_give gap_stretch (floats blocks those) true style.top c.args.before.now
    c.args.counts.now) c.style.view_is

pub returns-clause-shrink : goal.returns-clause-shrink
returns-clause-shrink c = λ blocks those are.
    c.area_give.ensures.shrink blocks those are
    ∙ ap (λ (style : StyleValue). checked_give gap_shrink (floats blocks those) true style.top c.args.before.now
    c.args.counts.now) c.style.view_is
