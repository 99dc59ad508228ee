use Rattle.pg_pages.proofs.Grown.{grows_on, grows_three}
use Rattle.pg_pages.proofs.number_line.print_numbers.Goals as goal

pub returns-in_err-print_sizes-clause-grows : goal.returns-in_err-print_sizes-clause-grows
returns-in_err-print_sizes-clause-grows c = c.print_sizes.ensures.grows

pub returns-in_err-print_costs-clause-grows : goal.returns-in_err-print_costs-clause-grows
returns-in_err-print_costs-clause-grows c = grows_on c.args.out.now.items c.print_sizes.new.out.items
    c.print_costs.new.out.items c.in_ok-print_sizes.ensures.grows c.print_costs.ensures.grows

pub returns-clause-grows : goal.returns-clause-grows
returns-clause-grows c = grows_three c.args.out.now.items c.print_sizes.new.out.items c.print_costs.new.out.items
    c.print_demerits.new.out.items c.in_ok-print_sizes.ensures.grows c.in_ok-print_costs.ensures.grows
    c.print_demerits.ensures.grows
