use Rattle.pg_pages.proofs.Grown.{grows_on}
use Rattle.pg_pages.proofs.number_line.print_costs.Goals as goal

pub returns-in_err-print_number-clause-grows : goal.returns-in_err-print_number-clause-grows
returns-in_err-print_number-clause-grows c = c.print_number.ensures.grows

pub returns-clause-grows : goal.returns-clause-grows
returns-clause-grows c = grows_on c.args.out.now.items c.print_number.new.out.items c.print_number-2.new.out.items
    c.in_ok-print_number.ensures.grows c.print_number-2.ensures.grows
