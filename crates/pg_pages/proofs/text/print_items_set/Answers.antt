use Rattle.std.proofs.Common.{◌∙◌, ◌++◌, ap, ℤ, List, w32}
use Rattle.std.specs.List.{flat_map}
use Rattle.std.proofs.lemmas.Int.{to_z-of_z}
use Rattle.pg_list.specs.declared.item.Item.{Item}
use Rattle.pg_pages.specs.Bodies.{plain_text}
use Rattle.pg_pages.specs.PageText.{set_items, top_line}
use Rattle.pg_pages.specs.Printed.{box_on, front_of}
use Rattle.pg_pages.proofs.Grown.{grows_on, grows_three, on_ok, two_parts}
use Rattle.pg_column.specs.Between.{behind}
use Rattle.pg_pages.proofs.text.print_items_set.Goals as goal

pub returns-clause-ok : goal.returns-clause-ok
returns-clause-ok c =
    let items = behind c.args.items.now in
    let front = flat_map plain_text (front_of items) in
    let old = c.args.out.now.items in
    let first = c.print_front.new.out.items in
    let second = c.print_top.new.out.items in
    let top = c.in_ok-print_top.ensures.ok
    ∙ ap (λ (topskip : ℤ). first ++ top_line topskip items)
    (to_z-of_z w32 c.args.topskip (record { sfits = c.ranges.topskip.sfits })) in
    let both = two_parts old first second front (top_line c.args.topskip items) c.in_ok-print_front.ensures.ok top in
    on_ok c.print_set_items.result _ _
    (λ printed. two_parts old second c.print_set_items.new.out.items (front ++ top_line c.args.topskip items)
    (set_items (box_on items) c.args.widths.now) both
    (printed ∙ ap (λ (those : List Item). second ++ set_items those c.args.widths.now) c.from_box.ensures))
    c.print_set_items.ensures.ok

pub returns-in_err-print_front-clause-grows : goal.returns-in_err-print_front-clause-grows
returns-in_err-print_front-clause-grows c = c.print_front.ensures.grows

pub returns-in_err-print_top-clause-grows : goal.returns-in_err-print_top-clause-grows
returns-in_err-print_top-clause-grows c = grows_on c.args.out.now.items c.print_front.new.out.items
    c.print_top.new.out.items c.in_ok-print_front.ensures.grows c.print_top.ensures.grows

pub returns-clause-grows : goal.returns-clause-grows
returns-clause-grows c = grows_three c.args.out.now.items c.print_front.new.out.items c.print_top.new.out.items
    c.print_set_items.new.out.items c.in_ok-print_front.ensures.grows c.in_ok-print_top.ensures.grows
    c.print_set_items.ensures.grows
