use Rattle.std.proofs.Common.{ap}
use Rattle.pg_style.specs.Values.{StyleValue}
use Rattle.pg_pages.specs.Printed.{lent}
use Rattle.pg_pages.proofs.Grown.{on_same}
use Rattle.pg_pages.proofs.Shown.{bottom_from}
use Rattle.pg_pages.proofs.column.print_bottom_area.Goals as goal

pub returns-clause-ok : goal.returns-clause-ok
returns-clause-ok c =
    on_same c.print_standing_area.result c.args.out.now.items c.print_standing_area.new.out.items _ _
    (bottom_from c.args.style.now (lent c.args.placed.now.bodies.now) c.args.column.now _ c.args.placed.now.below.now
    c.as_slice.result.now c.args.widths.now (ap (λ (style : StyleValue). style.bottom) c.style.view_is) c.as_slice.ensures)
    c.print_standing_area.ensures.ok

pub returns-clause-grows : goal.returns-clause-grows
returns-clause-grows c = c.print_standing_area.ensures.grows
