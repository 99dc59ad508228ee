use Rattle.std.proofs.Common.{◌∙◌, refl, length, sym, ap, arith, ℕ, List, ◌+◌, ◌++◌, append-nil}
use Rattle.std.proofs.lemmas.List.{take_all}
use Rattle.pg_plan.specs.declared.states.Label.{Label}
use Rattle.pg_labels.specs.LabelText.{labels_line, labels_from}
use Rattle.pg_scaled.proofs.Grown.{grows_on}
use Rattle.pg_labels.proofs.Printed.{text_more}
use Rattle.pg_labels.proofs.print.print_all.Goals as goal

pub returns-in_err-print_count-clause-grows : goal.returns-in_err-print_count-clause-grows
returns-in_err-print_count-clause-grows c = c.print_count.ensures.grows

pub loop-label-init : goal.loop-label-init
loop-label-init c =
    let old = c.args.out.now.items in
    let head = labels_line c.args.fitness (length c.args.labels.now) in
    record {
      text = c.in_ok-print_count.ensures.ok ∙ ap (λ (text : List ℕ). old ++ text) (sym (append-nil head));
      number = refl;
      grows = c.in_ok-print_count.ensures.grows;
    }

pub loop-label-preserved : goal.loop-label-preserved
loop-label-preserved c = record {
  text = text_more c.args.fitness c.args.labels.now c.loop-label.label-index c.label-item.result
      (c.loop-label.number + 1) c.args.out.now.items _ c.loop-label.out.items c.print_label.new.out.items
      c.loop-label-test.true c.label-item.is
      (omega (arith, c.loop-label.invariant.number)) c.loop-label.invariant.text c.in_ok-print_label.ensures.ok;
  number = omega (arith, c.loop-label.invariant.number);
  grows = grows_on c.args.out.now.items c.loop-label.out.items c.print_label.new.out.items c.loop-label.invariant.grows
      c.in_ok-print_label.ensures.grows;
}

pub returns-in_err-print_label-clause-grows : goal.returns-in_err-print_label-clause-grows
returns-in_err-print_label-clause-grows c = grows_on c.args.out.now.items c.loop-label.out.items
    c.print_label.new.out.items c.loop-label.invariant.grows c.print_label.ensures.grows

pub returns-clause-ok : goal.returns-clause-ok
returns-clause-ok c =
    let labels = c.args.labels.now in
    let all = take_all c.loop-label.label-index labels (omega (arith, c.loop-label-test.false)) in
    c.loop-label.invariant.text
    ∙ ap (λ (them : List Label). c.args.out.now.items
    ++ (labels_line c.args.fitness (length labels) ++ labels_from c.args.fitness 1 them)) all

pub returns-clause-grows : goal.returns-clause-grows
returns-clause-grows c = c.loop-label.invariant.grows
