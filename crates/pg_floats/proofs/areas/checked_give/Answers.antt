use Rattle.std.proofs.Common.{ap, sym, ◌∙◌}
use Rattle.pg_style.specs.declared.style.Give.{Give}
use Rattle.pg_rules.specs.Floats.{floats, gap_shrink, gap_stretch}
use Rattle.pg_floats.proofs.Gives.{given, none_given}
use Rattle.pg_floats.proofs.areas.checked_give.Goals as goal

pub returns-then-not-is_allowed-clause-stretch : goal.returns-then-not-is_allowed-clause-stretch
returns-then-not-is_allowed-clause-stretch c = λ blocks style are. ap (λ (give : Give). give.stretch) c.none.ensures
    ∙ none_given gap_stretch (floats blocks style) c.args.is_allowed c.args.rule.now c.args.placed.now c.args.counts.now
    c.if-not-is_allowed.true

pub returns-then-not-is_allowed-clause-shrink : goal.returns-then-not-is_allowed-clause-shrink
returns-then-not-is_allowed-clause-shrink c = λ blocks style are. ap (λ (give : Give). give.shrink) c.none.ensures
    ∙ none_given gap_shrink (floats blocks style) c.args.is_allowed c.args.rule.now c.args.placed.now c.args.counts.now
    c.if-not-is_allowed.true

pub returns-in-None-clause-stretch : goal.returns-in-None-clause-stretch
returns-in-None-clause-stretch c = λ blocks style are. ap (λ (give : Give). give.stretch) c.none-in-None.ensures
    ∙ given gap_stretch (floats blocks style) c.args.is_allowed c.args.rule.now c.args.placed.now c.args.counts.now _
    c.if-not-is_allowed.false (sym c.in-None.is ∙ c.count.ensures.value blocks style are)

pub returns-in-None-clause-shrink : goal.returns-in-None-clause-shrink
returns-in-None-clause-shrink c = λ blocks style are. ap (λ (give : Give). give.shrink) c.none-in-None.ensures
    ∙ given gap_shrink (floats blocks style) c.args.is_allowed c.args.rule.now c.args.placed.now c.args.counts.now _
    c.if-not-is_allowed.false (sym c.in-None.is ∙ c.count.ensures.value blocks style are)

pub returns-in-Some-clause-stretch : goal.returns-in-Some-clause-stretch
returns-in-Some-clause-stretch c = λ blocks style are. c.area_give.ensures.stretch
    ∙ given gap_stretch (floats blocks style) c.args.is_allowed c.args.rule.now c.args.placed.now c.args.counts.now _
    c.if-not-is_allowed.false (sym c.in-Some.is ∙ c.count.ensures.value blocks style are)

pub returns-in-Some-clause-shrink : goal.returns-in-Some-clause-shrink
returns-in-Some-clause-shrink c = λ blocks style are. c.area_give.ensures.shrink
    ∙ given gap_shrink (floats blocks style) c.args.is_allowed c.args.rule.now c.args.placed.now c.args.counts.now _
    c.if-not-is_allowed.false (sym c.in-Some.is ∙ c.count.ensures.value blocks style are)
