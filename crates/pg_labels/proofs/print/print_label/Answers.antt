use Rattle.std.proofs.Common.{◌≡◌, ◌∙◌, ◌∷◌, ◌++◌, ap, rules, ℤ, to_z, of_z}
use Rattle.std.specs.Int.{w128}
use Rattle.pg_words.specs.Written.{line, whole_text}
use Rattle.pg_labels.specs.LabelText.{label_front, label_rest, label_line}
use Rattle.pg_scaled.proofs.Grown.{grows_on, on_ok, two_parts}
use Rattle.pg_labels.proofs.print.print_label.Goals as goal

pub returns-in_err-print_label_front-clause-grows : goal.returns-in_err-print_label_front-clause-grows
returns-in_err-print_label_front-clause-grows c = c.print_label_front.ensures.grows

pub returns-in_err-print_label_rest-clause-grows : goal.returns-in_err-print_label_rest-clause-grows
returns-in_err-print_label_rest-clause-grows c = grows_on c.args.out.now.items c.print_label_front.new.out.items
    c.print_label_rest.new.out.items c.in_ok-print_label_front.ensures.grows c.print_label_rest.ensures.grows

pub returns-clause-ok : goal.returns-clause-ok
unfolding label_line
returns-clause-ok c =
    let label = c.args.label.now in
    let old = c.args.out.now.items in
    let first = c.print_label_front.new.out.items in
    let second = c.print_label_rest.new.out.items in
    let new = c.print_cost_line.new.out.items in
    let front = label_front c.args.number label.state in
    let rest = label_rest c.args.fitness label.state in
    let same : to_z w128 (of_z w128 label.cost) ≡ label.cost = search rules in
    on_ok c.print_cost_line.result _ _ (λ ended.
    two_parts old second new (front ++ rest) (line (32 ∷ whole_text label.cost))
    (two_parts old first second front rest c.in_ok-print_label_front.ensures.ok c.in_ok-print_label_rest.ensures.ok)
    (ended ∙ ap (λ (z : ℤ). second ++ line (32 ∷ whole_text z)) same))
    c.print_cost_line.ensures.ok

pub returns-clause-grows : goal.returns-clause-grows
returns-clause-grows c =
    let rest = grows_on c.args.out.now.items c.print_label_front.new.out.items c.print_label_rest.new.out.items
    c.in_ok-print_label_front.ensures.grows c.in_ok-print_label_rest.ensures.grows in
    grows_on c.args.out.now.items c.print_label_rest.new.out.items c.print_cost_line.new.out.items rest
    c.print_cost_line.ensures.grows
