use Rattle.pg_pages.proofs.Grown.{grows_on, grows_three}
use Rattle.pg_pages.proofs.lines.print_column_counts.Goals as goal

pub returns-in_err-print_counts_of-clause-grows : goal.returns-in_err-print_counts_of-clause-grows
returns-in_err-print_counts_of-clause-grows c = c.print_counts_of.ensures.grows

pub returns-in_err-print_counts_of-2-clause-grows : goal.returns-in_err-print_counts_of-2-clause-grows
returns-in_err-print_counts_of-2-clause-grows c = grows_on c.args.out.now.items c.print_counts_of.new.out.items
    c.print_counts_of-2.new.out.items c.in_ok-print_counts_of.ensures.grows c.print_counts_of-2.ensures.grows

pub returns-clause-grows : goal.returns-clause-grows
returns-clause-grows c = grows_three c.args.out.now.items c.print_counts_of.new.out.items
    c.print_counts_of-2.new.out.items c.print_picks_of.new.out.items c.in_ok-print_counts_of.ensures.grows
    c.in_ok-print_counts_of-2.ensures.grows c.print_picks_of.ensures.grows
