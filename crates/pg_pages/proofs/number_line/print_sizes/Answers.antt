use Rattle.std.proofs.Common.{◌∙◌, ◌++◌, rules, sym, ap, append_assoc, List, ℕ, ℤ, w64}
use Rattle.std.specs.Prelude.{codes}
use Rattle.std.proofs.lemmas.Int.{to_z-of_z}
use Rattle.pg_scaled.specs.Scaled.{scaled_text}
use Rattle.pg_pages.proofs.Grown.{on_ok, two_parts}
use Rattle.pg_pages.proofs.number_line.print_sizes.Goals as goal

pub returns-clause-ok : goal.returns-clause-ok
returns-clause-ok c =
    let it = c.args.numbers.now in
    let old = c.args.out.now.items in
    let mid = c.print_length.new.out.items in
    let first = codes "set goal " ++ scaled_text it.goal in
    let second = codes " total " ++ scaled_text it.total in
    let goal = to_z-of_z w64 it.goal (record { sfits = search rules }) in
    let total = to_z-of_z w64 it.total (record { sfits = search rules }) in
    let printed = c.in_ok-print_length.ensures.ok ∙ ap (λ (z : ℤ). old ++ codes "set goal " ++ scaled_text z) goal
    ∙ append_assoc old (codes "set goal ") (scaled_text it.goal) in
    on_ok c.print_length-2.result _ _
    (λ more. two_parts old mid c.print_length-2.new.out.items first second printed
    (more ∙ ap (λ (z : ℤ). mid ++ codes " total " ++ scaled_text z) total
    ∙ append_assoc mid (codes " total ") (scaled_text it.total))
    ∙ ap (λ (text : List ℕ). old ++ text) (sym (append_assoc first (codes " total ") (scaled_text it.total))))
    c.print_length-2.ensures.ok
