use Rattle.pg_pages.proofs.Grown.{grows_on, grows_three}
use Rattle.pg_pages.proofs.bodies.print_set.Goals as goal

pub returns-in_err-print_bytes-clause-grows : goal.returns-in_err-print_bytes-clause-grows
returns-in_err-print_bytes-clause-grows c = c.print_bytes.ensures.grows

pub returns-in_err-print_first-clause-grows : goal.returns-in_err-print_first-clause-grows
returns-in_err-print_first-clause-grows c = grows_on c.args.out.now.items c.print_bytes.new.out.items
    c.print_first.new.out.items c.in_ok-print_bytes.ensures.grows c.print_first.ensures.grows

pub returns-clause-grows : goal.returns-clause-grows
returns-clause-grows c = grows_three c.args.out.now.items c.print_bytes.new.out.items c.print_first.new.out.items
    c.print_set_rest.new.out.items c.in_ok-print_bytes.ensures.grows c.in_ok-print_first.ensures.grows
    c.print_set_rest.ensures.grows
