use Rattle.pg_pages.proofs.Grown.{grows_on, grows_three}
use Rattle.pg_pages.proofs.areas.open_area.Goals as goal

pub returns-in_err-print_bytes-clause-grows : goal.returns-in_err-print_bytes-clause-grows
returns-in_err-print_bytes-clause-grows c = c.print_bytes.ensures.grows

pub returns-in_err-print_bytes-2-clause-grows : goal.returns-in_err-print_bytes-2-clause-grows
returns-in_err-print_bytes-2-clause-grows c = grows_on c.args.out.now.items c.print_bytes.new.out.items
    c.print_bytes-2.new.out.items c.in_ok-print_bytes.ensures.grows c.print_bytes-2.ensures.grows

pub returns-in_err-end_line-clause-grows : goal.returns-in_err-end_line-clause-grows
returns-in_err-end_line-clause-grows c = grows_three c.args.out.now.items c.print_bytes.new.out.items
    c.print_bytes-2.new.out.items c.end_line.new.out.items c.in_ok-print_bytes.ensures.grows
    c.in_ok-print_bytes-2.ensures.grows c.end_line.ensures.grows

pub returns-clause-grows : goal.returns-clause-grows
returns-clause-grows c = grows_three c.args.out.now.items c.print_bytes.new.out.items c.print_bytes-2.new.out.items
    c.end_line.new.out.items c.in_ok-print_bytes.ensures.grows c.in_ok-print_bytes-2.ensures.grows
    c.in_ok-end_line.ensures.grows
