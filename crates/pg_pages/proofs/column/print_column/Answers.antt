use Rattle.pg_pages.specs.PageText.{column_body, column_line}
use Rattle.pg_rules.specs.Legal.{document}
use Rattle.pg_pages.specs.Seated.{seated}
use Rattle.pg_pages.proofs.Grown.{grows_on, on_two}
use Rattle.pg_pages.proofs.column.print_column.Goals as goal

pub print_column_body-requires-clause-floats : goal.print_column_body-requires-clause-floats
print_column_body-requires-clause-floats c = c.requires.floats

pub print_column_body-requires-clause-bodies : goal.print_column_body-requires-clause-bodies
print_column_body-requires-clause-bodies c = c.requires.bodies

pub print_column_body-requires-clause-may : goal.print_column_body-requires-clause-may
print_column_body-requires-clause-may c = c.requires.may

pub returns-in_err-print_column_line-clause-grows : goal.returns-in_err-print_column_line-clause-grows
returns-in_err-print_column_line-clause-grows c = c.print_column_line.ensures.grows

pub returns-clause-ok : goal.returns-clause-ok
returns-clause-ok c =
    let doc = document c.args.matter.now.galley.now c.args.matter.now.style.now in
    on_two c.print_column_body.result c.args.out.now.items c.print_column_line.new.out.items
    c.print_column_body.new.out.items (column_line c.args.number c.args.column.now)
    (column_body (seated doc c.args.seat.now c.args.column.now)) c.in_ok-print_column_line.ensures.ok
    c.print_column_body.ensures.ok

pub returns-clause-grows : goal.returns-clause-grows
returns-clause-grows c = grows_on c.args.out.now.items c.print_column_line.new.out.items
    c.print_column_body.new.out.items c.in_ok-print_column_line.ensures.grows c.print_column_body.ensures.grows
