use Rattle.pg_pages.proofs.Grown.{grows_on, grows_three}
use Rattle.pg_pages.proofs.lines.print_side_line.Goals as goal

pub returns-in_err-print_page_side-clause-grows : goal.returns-in_err-print_page_side-clause-grows
returns-in_err-print_page_side-clause-grows c = c.print_page_side.ensures.grows

pub returns-in_err-print_run-clause-grows : goal.returns-in_err-print_run-clause-grows
returns-in_err-print_run-clause-grows c = grows_on c.args.out.now.items c.print_page_side.new.out.items
    c.print_run.new.out.items c.in_ok-print_page_side.ensures.grows c.print_run.ensures.grows

pub returns-clause-grows : goal.returns-clause-grows
returns-clause-grows c = grows_three c.args.out.now.items c.print_page_side.new.out.items c.print_run.new.out.items
    c.end_line.new.out.items c.in_ok-print_page_side.ensures.grows c.in_ok-print_run.ensures.grows
    c.end_line.ensures.grows
