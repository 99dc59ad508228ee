use Rattle.std.proofs.Common.{rules, ap, ◌∙◌, ◌≡◌}
use Rattle.pg_style.specs.Values.{AreaRuleValue}
use Rattle.pg_rules.specs.Floats.{floats, gap_shrink, gap_stretch}
use Rattle.pg_rules.specs.Room.{checked_give}
use Rattle.pg_judge.proofs.seat.bottom_give.Goals as goal

pub returns-clause-stretch : goal.returns-clause-stretch
returns-clause-stretch c = λ blocks are.
    let own : c.style.inside.bottom ≡ c.args.style.now.bottom = search rules in
    c.checked_give.ensures.stretch blocks c.args.style.now are
    ∙ ap (λ (rule : AreaRuleValue). checked_give gap_stretch (floats blocks c.args.style.now) c.args.is_allowed rule
    c.args.placed.now c.args.counts.now) own

pub returns-clause-shrink : goal.returns-clause-shrink
returns-clause-shrink c = λ blocks are.
    let own : c.style.inside.bottom ≡ c.args.style.now.bottom = search rules in
    c.checked_give.ensures.shrink blocks c.args.style.now are
    ∙ ap (λ (rule : AreaRuleValue). checked_give gap_shrink (floats blocks c.args.style.now) c.args.is_allowed rule
    c.args.placed.now c.args.counts.now) own
