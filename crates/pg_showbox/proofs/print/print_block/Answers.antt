use Rattle.std.proofs.Common.{◌∙◌, ◌++◌, ap, sym, List}
use Rattle.std.specs.List.{flat_map}
use Rattle.pg_list.specs.declared.variants.Variant.{Variant}
use Rattle.pg_list.specs.Bodies.{body_of}
use Rattle.pg_showbox.specs.Text.{body_text, block_text, choice_line, variant_text, end_line}
use Rattle.pg_showbox.proofs.Grown.{grows_on, on_ok, on_same, two_parts}
use Rattle.pg_showbox.proofs.print.print_block.Goals as goal

pub returns-in-One-clause-ok : goal.returns-in-One-clause-ok
returns-in-One-clause-ok c = on_same c.print_body.result c.args.out.now.items c.print_body.new.out.items
    (body_text c.body.result.now) (block_text c.args.block.now)
    (ap body_text c.body.ensures ∙ sym (ap block_text c.in-One.is)) c.print_body.ensures.ok

pub returns-in-One-clause-grows : goal.returns-in-One-clause-grows
returns-in-One-clause-grows c = c.print_body.ensures.grows

pub returns-in_err-print_choice_line-in-Choice-clause-grows :
    goal.returns-in_err-print_choice_line-in-Choice-clause-grows
returns-in_err-print_choice_line-in-Choice-clause-grows c = c.print_choice_line.ensures.grows

pub returns-in_err-print_variants-in-Choice-clause-grows : goal.returns-in_err-print_variants-in-Choice-clause-grows
returns-in_err-print_variants-in-Choice-clause-grows c = grows_on c.args.out.now.items
    c.print_choice_line.new.out.items c.print_variants.new.out.items
    c.in_ok-print_choice_line-in-Choice.ensures.grows c.print_variants.ensures.grows

pub returns-in_ok-print_variants-in-Choice-clause-ok : goal.returns-in_ok-print_variants-in-Choice-clause-ok
returns-in_ok-print_variants-in-Choice-clause-ok c =
    let old = c.args.out.now.items in
    let first = c.print_choice_line.new.out.items in
    let second = c.print_variants.new.out.items in
    let new = c.print_end_line.new.out.items in
    let middle = flat_map variant_text c.in-Choice.choice in
    let variants = c.in_ok-print_variants-in-Choice.ensures.ok
    ∙ ap (λ (them : List Variant). first ++ flat_map variant_text them) c.variants.ensures.variants in
    let whole = choice_line ++ (middle ++ end_line) in
    on_same c.print_end_line.result old new whole (block_text c.args.block.now) (sym (ap block_text c.in-Choice.is))
    (on_ok c.print_end_line.result _ _ (λ ended.
    two_parts old first new choice_line (middle ++ end_line) c.in_ok-print_choice_line-in-Choice.ensures.ok
    (two_parts first second new middle end_line variants ended))
    c.print_end_line.ensures.ok)

pub returns-in_ok-print_variants-in-Choice-clause-grows : goal.returns-in_ok-print_variants-in-Choice-clause-grows
returns-in_ok-print_variants-in-Choice-clause-grows c =
    let variants = grows_on c.args.out.now.items c.print_choice_line.new.out.items c.print_variants.new.out.items
    c.in_ok-print_choice_line-in-Choice.ensures.grows c.in_ok-print_variants-in-Choice.ensures.grows in
    grows_on c.args.out.now.items c.print_variants.new.out.items c.print_end_line.new.out.items variants
    c.print_end_line.ensures.grows
