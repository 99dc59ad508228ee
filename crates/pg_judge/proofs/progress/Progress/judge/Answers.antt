use Rattle.std.proofs.Common.{arith, refl, sym, ◌∙◌}
use Rattle.pg_lemmas.proofs.Bools.{both_of}
use Rattle.pg_list.specs.Flat.{is_same_place}
use Rattle.pg_column.specs.Fits.{does_fit_from}
use Rattle.pg_judge.specs.Bases.{doc_of, move_of}
use Rattle.pg_judge.proofs.Step.{chained_is, lost_progress, on_ok, skip_progress}
use Rattle.pg_judge.proofs.progress.Progress.judge.Goals as goal

pub returns-then-is_lost-clause-next : goal.returns-then-is_lost-clause-next
returns-then-is_lost-clause-next c = λ ms prog. skip_progress (doc_of c.args.basis.now)
    (move_of c.args.step.now) ms c.args.self.now _ prog
    (sym c.is_lost.ensures ∙ c.if-is_lost.true) refl refl

pub returns-then-not-is_chained-clause-next : goal.returns-then-not-is_chained-clause-next
returns-then-not-is_chained-clause-next c = λ ms prog.
    let lost = sym c.is_lost.ensures ∙ c.if-is_lost.false in
    lost_progress (doc_of c.args.basis.now)
    (move_of c.args.step.now) ms c.args.self.now _ _ prog lost
    (sym (chained_is c.args.basis.now.galley.now c.args.basis.now.style.now c.args.step.now.column.now
    c.args.step.now.run c.args.step.now.wide.now ms c.args.self.now (prog.going lost)) ∙ (sym c.is_chained.ensures ∙ c.if-not-is_chained.true)) refl refl refl

pub returns-clause-next : goal.returns-clause-next
returns-clause-next c = on_ok c.go_on.result c.go_on.ensures.next (λ next ms prog.
    let lost = sym c.is_lost.ensures ∙ c.if-is_lost.false in
    next ms prog (prog.going lost)
    (sym (chained_is c.args.basis.now.galley.now c.args.basis.now.style.now c.args.step.now.column.now
    c.args.step.now.run c.args.step.now.wide.now ms c.args.self.now (prog.going lost))
    ∙ (sym c.is_chained.ensures ∙ c.if-not-is_chained.false)))

pub overflow_add-self : goal.overflow_add-self
overflow_add-self c = record { fits = omega (arith, c.requires.number) }

pub returns-then-is_lost-clause-kept : goal.returns-then-is_lost-clause-kept
returns-then-is_lost-clause-kept c =
    let kept = c.requires.kept in
    record {
      slots = kept.slots;
      few = kept.few;
      column = kept.column;
      page = omega (arith, kept.page);
      wide = kept.wide;
      cost = omega (arith, kept.cost);
    }

pub returns-then-is_lost-clause-number : goal.returns-then-is_lost-clause-number
returns-then-is_lost-clause-number c = refl

pub overflow_add-self-then-not-is_chained : goal.overflow_add-self-then-not-is_chained
overflow_add-self-then-not-is_chained c = record { fits = omega (arith, c.requires.number) }

pub returns-then-not-is_chained-clause-kept : goal.returns-then-not-is_chained-clause-kept
returns-then-not-is_chained-clause-kept c =
    let kept = c.requires.kept in
    record {
      slots = kept.slots;
      few = kept.few;
      column = kept.column;
      page = omega (arith, kept.page);
      wide = kept.wide;
      cost = omega (arith, kept.cost);
    }

pub returns-then-not-is_chained-clause-number : goal.returns-then-not-is_chained-clause-number
returns-then-not-is_chained-clause-number c = refl

pub go_on-requires-clause-list : goal.go_on-requires-clause-list
go_on-requires-clause-list c = c.requires.list

pub go_on-requires-clause-kept : goal.go_on-requires-clause-kept
go_on-requires-clause-kept c = c.requires.kept

pub go_on-requires-clause-number : goal.go_on-requires-clause-number
go_on-requires-clause-number c = c.requires.number

pub go_on-requires-clause-fits : goal.go_on-requires-clause-fits
go_on-requires-clause-fits c =
    let column = c.args.step.now.column.now in
    (both_of (is_same_place column.from c.args.self.now.at)
    (does_fit_from c.args.basis.now.galley.now.blocks column.from column.picks column.to)
    (sym c.is_chained.ensures ∙ c.if-not-is_chained.false)).1

pub returns-clause-kept : goal.returns-clause-kept
returns-clause-kept c = c.go_on.ensures.kept

pub returns-clause-number : goal.returns-clause-number
returns-clause-number c = c.go_on.ensures.number
