use Rattle.std.proofs.Common.{rules, ◌∙◌, ap, sym, w32, w64}
use Rattle.std.proofs.lemmas.Int.{to_z-of_z}
use Rattle.pg_rules.specs.Floats.{gap_shrink, gap_stretch}
use Rattle.pg_style.specs.Values.{AreaRuleValue}
use Rattle.pg_column.proofs.Numbers.{some_give}
use Rattle.pg_column.proofs.gives.area_give.Goals as goal

pub returns-clause-stretch : goal.returns-clause-stretch
returns-clause-stretch c =
    to_z-of_z w64 c.amounts.result (record { sfits = search rules }) ∙ c.amounts.ensures.value
    ∙ some_give gap_stretch c.args.rule.now _ _ c.args.floats
    (sym (ap (λ (rule : AreaRuleValue). gap_stretch rule.sep) c.rule.view_is)
    ∙ sym (to_z-of_z w32 c.rule.inside.sep.stretch (record { sfits = search rules })))
    (sym (ap (λ (rule : AreaRuleValue). gap_stretch rule.gap) c.rule.view_is)
    ∙ sym (to_z-of_z w32 c.rule.inside.gap.stretch (record { sfits = search rules }))) c.if-floats-eq0.false

pub returns-clause-shrink : goal.returns-clause-shrink
returns-clause-shrink c =
    to_z-of_z w64 c.amounts-2.result (record { sfits = search rules }) ∙ c.amounts-2.ensures.value
    ∙ some_give gap_shrink c.args.rule.now _ _ c.args.floats
    (sym (ap (λ (rule : AreaRuleValue). gap_shrink rule.sep) c.rule.view_is)
    ∙ sym (to_z-of_z w32 c.rule.inside.sep.shrink (record { sfits = search rules })))
    (sym (ap (λ (rule : AreaRuleValue). gap_shrink rule.gap) c.rule.view_is)
    ∙ sym (to_z-of_z w32 c.rule.inside.gap.shrink (record { sfits = search rules }))) c.if-floats-eq0.false
