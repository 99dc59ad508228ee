use Rattle.pg_column.specs.Between.{behind}
use Rattle.pg_pages.specs.Printed.{lent}
use Rattle.pg_pages.proofs.Grown.{grows_four, grows_on, grows_three, on_ok}
use Rattle.pg_pages.proofs.SetColumn.{set_from}
use Rattle.pg_pages.proofs.column.print_set_column.Goals as goal

pub returns-clause-ok : goal.returns-clause-ok
returns-clause-ok c =
    on_ok c.print_note_area.result _ _
    (λ printed. set_from c.args.style.now (lent c.args.placed.now.bodies.now) c.args.placed.now.before.now
    c.args.placed.now.below.now c.args.column.now (behind c.args.text.now.items.now) c.args.text.now.numbers.now
    c.args.set.now.widths.now
    c.widths_from-inner.result.now c.widths_from-noted.result.now c.widths_from-below.result.now
    c.args.set.now.above c.args.set.now.inside c.args.set.now.noted c.widths_from-inner.ensures.value
    c.widths_from-noted.ensures.value c.widths_from-below.ensures.value c.args.out.now.items
    c.print_numbers.new.out.items c.print_top_area.new.out.items c.print_text_area.new.out.items
    c.print_bottom_area.new.out.items c.print_note_area.new.out.items c.in_ok-print_numbers.ensures.ok
    c.in_ok-print_top_area.ensures.ok c.in_ok-print_text_area.ensures.ok c.in_ok-print_bottom_area.ensures.ok printed)
    c.print_note_area.ensures.ok

pub returns-in_err-print_numbers-clause-grows : goal.returns-in_err-print_numbers-clause-grows
returns-in_err-print_numbers-clause-grows c = c.print_numbers.ensures.grows

pub returns-in_err-print_top_area-clause-grows : goal.returns-in_err-print_top_area-clause-grows
returns-in_err-print_top_area-clause-grows c = grows_on c.args.out.now.items c.print_numbers.new.out.items
    c.print_top_area.new.out.items c.in_ok-print_numbers.ensures.grows c.print_top_area.ensures.grows

pub returns-in_err-print_text_area-clause-grows : goal.returns-in_err-print_text_area-clause-grows
returns-in_err-print_text_area-clause-grows c = grows_three c.args.out.now.items c.print_numbers.new.out.items
    c.print_top_area.new.out.items c.print_text_area.new.out.items c.in_ok-print_numbers.ensures.grows
    c.in_ok-print_top_area.ensures.grows c.print_text_area.ensures.grows

pub returns-in_err-print_bottom_area-clause-grows : goal.returns-in_err-print_bottom_area-clause-grows
returns-in_err-print_bottom_area-clause-grows c = grows_four c.args.out.now.items c.print_numbers.new.out.items
    c.print_top_area.new.out.items c.print_text_area.new.out.items c.print_bottom_area.new.out.items
    c.in_ok-print_numbers.ensures.grows c.in_ok-print_top_area.ensures.grows c.in_ok-print_text_area.ensures.grows
    c.print_bottom_area.ensures.grows

pub returns-clause-grows : goal.returns-clause-grows
returns-clause-grows c = grows_four c.args.out.now.items c.print_top_area.new.out.items
    c.print_text_area.new.out.items c.print_bottom_area.new.out.items c.print_note_area.new.out.items (grows_on
    c.args.out.now.items c.print_numbers.new.out.items c.print_top_area.new.out.items
    c.in_ok-print_numbers.ensures.grows c.in_ok-print_top_area.ensures.grows) c.in_ok-print_text_area.ensures.grows
    c.in_ok-print_bottom_area.ensures.grows c.print_note_area.ensures.grows
