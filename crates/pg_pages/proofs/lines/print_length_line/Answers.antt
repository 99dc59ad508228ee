use Rattle.pg_pages.proofs.Grown.{grows_on}
use Rattle.pg_pages.proofs.lines.print_length_line.Goals as goal

pub returns-in_err-print_length-clause-grows : goal.returns-in_err-print_length-clause-grows
returns-in_err-print_length-clause-grows c = c.print_length.ensures.grows

pub returns-clause-grows : goal.returns-clause-grows
returns-clause-grows c = grows_on c.args.out.now.items c.print_length.new.out.items c.end_line.new.out.items
    c.in_ok-print_length.ensures.grows c.end_line.ensures.grows
