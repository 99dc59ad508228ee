use Rattle.std.proofs.Common.{◌∙◌, ◌++◌, rules, ap, ℤ, w32}
use Rattle.std.proofs.lemmas.Int.{to_z-of_z}
use Rattle.std.specs.Prelude.{codes}
use Rattle.pg_style.specs.Values.{StyleValue}
use Rattle.pg_words.specs.Written.{line}
use Rattle.pg_pages.specs.PageText.{items_text}
use Rattle.pg_pages.proofs.Grown.{grows_on, on_ok, two_parts}
use Rattle.pg_pages.specs.Printed.{text_by}
use Rattle.pg_column.specs.Between.{behind}
use Rattle.pg_pages.proofs.column.print_text_area.Goals as goal

pub returns-clause-ok : goal.returns-clause-ok
unfolding text_by
returns-clause-ok c =
    let items = behind c.args.items.now in
    let mid = c.print_bytes.new.out.items in
    let topskip = to_z-of_z w32 c.style.inside.topskip (record { sfits = search rules })
    ∙ ap (λ (style : StyleValue). style.topskip) c.style.view_is in
    on_ok c.print_items_set.result _ _
    (λ printed. two_parts c.args.out.now.items mid c.print_items_set.new.out.items (line (codes "area text"))
    (items_text c.args.style.now.topskip items c.args.widths.now) c.in_ok-print_bytes.ensures.ok
    (printed ∙ ap (λ (z : ℤ). mid ++ items_text z items c.args.widths.now) topskip))
    c.print_items_set.ensures.ok

pub returns-clause-grows : goal.returns-clause-grows
returns-clause-grows c =
    grows_on c.args.out.now.items c.print_bytes.new.out.items c.print_items_set.new.out.items
    c.in_ok-print_bytes.ensures.grows c.print_items_set.ensures.grows
