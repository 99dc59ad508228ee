use Rattle.std.proofs.Common.{◌∙◌, ap, ◌++◌}
use Rattle.pg_plan.specs.declared.states.Side.{Side}
use Rattle.pg_rules.specs.History.{side_of}
use Rattle.pg_style.specs.Values.{StyleValue}
use Rattle.pg_pages.specs.PageText.{page_line}
use Rattle.pg_pages.specs.Printed.{lent, wide_by}
use Rattle.pg_pages.proofs.Grown.{grows_on, on_ok, two_parts}
use Rattle.pg_pages.proofs.sheets.print_page_head.Goals as goal

pub returns-clause-ok : goal.returns-clause-ok
returns-clause-ok c =
    let style = c.args.style.now in
    let page = c.args.page.now in
    let old = c.args.out.now.items in
    let side = c.side_of.ensures ∙ ap (λ (it : StyleValue). side_of it.first c.args.number) c.style.view_is in
    on_ok c.print_wide_area.result _ _
    (λ printed. two_parts old c.print_side_line.new.out.items c.print_wide_area.new.out.items
    (page_line c.args.number (side_of style.first c.args.number) page.run page.wide)
    (wide_by style (lent c.args.bodies.now) c.args.placed.now page.wide)
    (c.in_ok-print_side_line.ensures.ok
    ∙ ap (λ (side : Side). old ++ page_line c.args.number side page.run page.wide) side) printed)
    c.print_wide_area.ensures.ok

pub returns-clause-grows : goal.returns-clause-grows
returns-clause-grows c =
    grows_on c.args.out.now.items c.print_side_line.new.out.items c.print_wide_area.new.out.items
    c.in_ok-print_side_line.ensures.grows c.print_wide_area.ensures.grows
