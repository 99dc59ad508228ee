use Rattle.std.proofs.Common.{◌≡◌, ◌∙◌, ◌++◌, ap, rules, List, ℤ, w32, to_z, of_z}
use Rattle.pg_list.specs.declared.item.Item.{Item}
use Rattle.pg_showbox.specs.Text.{items_text, variant_front, variant_numbers}
use Rattle.pg_showbox.proofs.Grown.{grows_on, on_ok, two_parts}
use Rattle.pg_showbox.proofs.print.print_variant.Goals as goal

pub returns-in_err-print_variant_front-clause-grows : goal.returns-in_err-print_variant_front-clause-grows
returns-in_err-print_variant_front-clause-grows c = c.print_variant_front.ensures.grows

pub returns-in_err-print_numbers-clause-grows : goal.returns-in_err-print_numbers-clause-grows
returns-in_err-print_numbers-clause-grows c = grows_on c.args.out.now.items c.print_variant_front.new.out.items
    c.print_numbers.new.out.items c.in_ok-print_variant_front.ensures.grows c.print_numbers.ensures.grows

pub returns-clause-ok : goal.returns-clause-ok
returns-clause-ok c =
    let variant = c.args.variant.now in
    let old = c.args.out.now.items in
    let first = c.print_variant_front.new.out.items in
    let second = c.print_numbers.new.out.items in
    let new = c.print_items.new.out.items in
    let numbers = variant_numbers variant.looseness variant.demerits in
    let looseness : to_z w32 (of_z w32 variant.looseness) ≡ variant.looseness = search rules in
    let said = c.in_ok-print_numbers.ensures.ok
    ∙ ap (λ (z : ℤ). first ++ variant_numbers z variant.demerits) looseness in
    on_ok c.print_items.result _ _ (λ printed.
    two_parts old first new variant_front (numbers ++ items_text variant.items) c.in_ok-print_variant_front.ensures.ok
    (two_parts first second new numbers (items_text variant.items) said
    (printed ∙ ap (λ (items : List Item). second ++ items_text items) c.as_slice.ensures.items)))
    c.print_items.ensures.ok

pub returns-clause-grows : goal.returns-clause-grows
returns-clause-grows c =
    let numbers = grows_on c.args.out.now.items c.print_variant_front.new.out.items c.print_numbers.new.out.items
    c.in_ok-print_variant_front.ensures.grows c.in_ok-print_numbers.ensures.grows in
    grows_on c.args.out.now.items c.print_numbers.new.out.items c.print_items.new.out.items numbers
    c.print_items.ensures.grows
