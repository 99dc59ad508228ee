use Rattle.std.proofs.Common.{refl, ◌∙◌, ◌+◌}
use Rattle.pg_rules.specs.History.{placed_of}
use Rattle.pg_judge.specs.Bases.{doc_of, move_of}
use Rattle.pg_judge.proofs.Step.{counted_is, kept_on, next_progress, on_ok, paid_behind}
use Rattle.pg_judge.proofs.progress.Progress.go_on.Goals as goal

pub returns-clause-kept : goal.returns-clause-kept
returns-clause-kept c = on_ok c.advance.result c.advance.ensures
    (λ on. kept_on c.args.basis.now.style.now c.stays_in_range.ensures _ _ _ _ _ _ _ _ _ c.requires.kept on
    c.next_wide-height.ensures.size c.outcome-outcome.ensures.size)

pub returns-clause-number : goal.returns-clause-number
returns-clause-number c = on_ok c.advance.result c.advance.ensures (λ on. on.number_is)

pub returns-clause-next : goal.returns-clause-next
returns-clause-next c = on_ok c.advance.result c.advance.ensures (λ on ms prog going chained.
    let doc = doc_of c.args.basis.now in
    let m = move_of c.args.step.now in
    let it = c.args.self.now in
    let counted = counted_is doc.style (placed_of doc.style ms) m it.slots it.placed c.in_ok-counted.counted
    c.requires.kept.slots going.placed c.in_ok-counted.ensures.before c.in_ok-counted.ensures.below
    c.in_ok-counted.ensures.after in
    let high = c.next_wide-height.ensures.value m ms refl going in
    let outcome = c.outcome-outcome.ensures.outcome ms going high counted chained in
    next_progress doc m.column m.run m.wide ms it c.advance.new.self _ _ _ _ _ on going chained high
    (c.in_ok-after.ensures ∙ counted.after) prog outcome.rule_is
    (paid_behind doc m ms it c.advance.new.self _ _ _ outcome going.paid (it.number + 1) on.broken_is on.fitness_is
    on.cost_is))
