use Rattle.std.proofs.Common.{ap, ◌∙◌, List, ℕ}
use Rattle.pg_plan.specs.declared.pages.Column.{Column}
use Rattle.pg_rules.specs.Floats.{plus_counts}
use Rattle.pg_rules.specs.Legal.{document}
use Rattle.pg_pages.specs.Sheets.{placed_from}
use Rattle.pg_pages.proofs.SheetText.{sheet_is}
use Rattle.pg_pages.proofs.Shown.{may_as}
use Rattle.pg_pages.proofs.Grown.{grows_on}
use Rattle.pg_pages.proofs.sheets.print_sheet.Goals as goal

pub first_seat-requires-clause-bodies : goal.first_seat-requires-clause-bodies
first_seat-requires-clause-bodies c = c.requires.bodies

pub first_seat-requires-clause-wide : goal.first_seat-requires-clause-wide
first_seat-requires-clause-wide c = c.requires.may.wide

pub first_seat-requires-clause-fit : goal.first_seat-requires-clause-fit
first_seat-requires-clause-fit c = c.requires.may.wide_fits

pub print_seats-requires-clause-may : goal.print_seats-requires-clause-may
print_seats-requires-clause-may c =
    may_as (document c.args.matter.now.galley.now c.args.matter.now.style.now) _ _ _ _ _ _ _ _ c.in_ok-seat.ensures.run
    c.in_ok-seat.ensures.wide c.in_ok-seat.ensures.before c.as_slice-columns.ensures c.requires.may.columns

pub returns-clause-ok : goal.returns-clause-ok
returns-clause-ok c =
    sheet_is (document c.args.matter.now.galley.now c.args.matter.now.style.now) c.args.number c.args.placed.now
    c.args.page.now _
    c.requires.bodies c.in_ok-seat.seat.run c.in_ok-seat.ensures.run c.in_ok-seat.seat.wide c.in_ok-seat.ensures.wide
    c.in_ok-seat.seat.before c.in_ok-seat.ensures.before c.as_slice-columns.result.now c.as_slice-columns.ensures
    c.args.out.now.items c.print_page_head.new.out.items c.print_seats.new.out.items c.in_ok-print_page_head.ensures.ok
    c.in_ok-print_seats.ensures.ok

pub returns-clause-grows : goal.returns-clause-grows
returns-clause-grows c =
    grows_on c.args.out.now.items c.print_page_head.new.out.items c.print_seats.new.out.items
    c.in_ok-print_page_head.ensures.grows c.in_ok-print_seats.ensures.grows

pub print_seats-requires-clause-floats : goal.print_seats-requires-clause-floats
print_seats-requires-clause-floats c = c.requires.floats

pub print_seats-requires-clause-bodies : goal.print_seats-requires-clause-bodies
print_seats-requires-clause-bodies c = c.requires.bodies

pub first_seat-requires-clause-floats : goal.first_seat-requires-clause-floats
first_seat-requires-clause-floats c = c.requires.floats

pub returns-in_err-print_seats-clause-grows : goal.returns-in_err-print_seats-clause-grows
returns-in_err-print_seats-clause-grows c = grows_on c.args.out.now.items c.print_page_head.new.out.items
    c.print_seats.new.out.items c.in_ok-print_page_head.ensures.grows c.print_seats.ensures.grows

pub returns-clause-placed : goal.returns-clause-placed
returns-clause-placed c =
    c.in_ok-print_seats.ensures.placed
    ∙ ap (λ (counts : List ℕ). placed_from c.args.matter.now.style.now counts c.as_slice-columns.result.now)
    c.in_ok-seat.ensures.before
    ∙ ap (λ (columns : List Column). placed_from c.args.matter.now.style.now
    (plus_counts c.args.matter.now.style.now c.args.placed.now c.args.page.now.wide) columns) c.as_slice-columns.ensures

pub returns-in_err-print_page_head-clause-grows : goal.returns-in_err-print_page_head-clause-grows
returns-in_err-print_page_head-clause-grows c = c.print_page_head.ensures.grows

pub returns-in_err-seat-clause-grows : goal.returns-in_err-seat-clause-grows
returns-in_err-seat-clause-grows c = c.in_ok-print_page_head.ensures.grows
