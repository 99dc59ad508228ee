use Rattle.pg_pages.proofs.Grown.{grows_four, grows_on, grows_three}
use Rattle.pg_pages.proofs.bodies.print_set_rest.Goals as goal

pub returns-in_err-print_bytes-clause-grows : goal.returns-in_err-print_bytes-clause-grows
returns-in_err-print_bytes-clause-grows c = c.print_bytes.ensures.grows

pub returns-in_err-print_width-clause-grows : goal.returns-in_err-print_width-clause-grows
returns-in_err-print_width-clause-grows c = grows_on c.args.out.now.items c.print_bytes.new.out.items
    c.print_width.new.out.items c.in_ok-print_bytes.ensures.grows c.print_width.ensures.grows

pub returns-in_err-print_further-clause-grows : goal.returns-in_err-print_further-clause-grows
returns-in_err-print_further-clause-grows c = grows_three c.args.out.now.items c.print_bytes.new.out.items
    c.print_width.new.out.items c.print_further.new.out.items c.in_ok-print_bytes.ensures.grows
    c.in_ok-print_width.ensures.grows c.print_further.ensures.grows

pub returns-clause-grows : goal.returns-clause-grows
returns-clause-grows c = grows_four c.args.out.now.items c.print_bytes.new.out.items c.print_width.new.out.items
    c.print_further.new.out.items c.end_line.new.out.items c.in_ok-print_bytes.ensures.grows
    c.in_ok-print_width.ensures.grows c.in_ok-print_further.ensures.grows c.end_line.ensures.grows
