use Rattle.std.proofs.Common.{◌∙◌, sym, subst, arith, List, Some}
use Rattle.pg_hlist.specs.declared.item.HItem.{HItem}
use Rattle.law_lines.specs.declared.rule.LineRule.{LineRule}
use Rattle.pg_lines.specs.Found.{IsBestNumber, IsFound}
use Rattle.pg_lines.proofs.Found.{best_found, count_few, moved}
use Rattle.pg_lines.proofs.choice.variants_of.Goals as goal

pub overflow_add-most : goal.overflow_add-most
overflow_add-most g c =
    let rule = c.args.rule.now in
    let para = c.args.items.now in
    let number : IsBestNumber c.args.rule.now c.args.items.now (Some c.in-Some.count) =
    subst (IsBestNumber c.args.rule.now c.args.items.now) c.in-Some.is
    (moved (λ (r : LineRule) (p : List HItem). IsBestNumber r p c.in_ok-count.field-0) c.new-breaks.result.rule.now rule
    c.new-breaks.result.items.now para c.new-breaks.ensures.rule c.new-breaks.ensures.items c.in_ok-count.ensures) in
    let few = count_few rule para c.in-Some.count c.requires.para number in
    let around = c.requires.rule.around in
    omega (arith, few, around, c.from.ensures)

pub variants_around-requires-clause-best : goal.variants_around-requires-clause-best
variants_around-requires-clause-best g c =
    let rule = c.new-space.result.rule.now in
    let para = c.new-space.result.items.now in
    let number : IsBestNumber c.new-space.result.rule.now c.new-space.result.items.now (Some c.in-Some.count) =
    subst (IsBestNumber c.new-space.result.rule.now c.new-space.result.items.now) c.in-Some.is
    (moved (λ (r : LineRule) (p : List HItem). IsBestNumber r p c.in_ok-count.field-0) c.new-breaks.result.rule.now rule
    c.new-breaks.result.items.now para (c.new-breaks.ensures.rule ∙ sym c.new-space.ensures.rule)
    (c.new-breaks.ensures.items ∙ sym c.new-space.ensures.items) c.in_ok-count.ensures) in
    best_found rule para c.in-Some.count c.in-Some-2.best number
    (subst (IsFound c.new-space.result.rule.now c.new-space.result.items.now c.in-Some.count) c.in-Some-2.is
    c.in_ok-best.ensures)
