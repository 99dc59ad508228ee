use Rattle.pg_pages.proofs.Grown.{grows_on}
use Rattle.pg_pages.proofs.gaps.print_part.Goals as goal

pub returns-in_err-print_bytes-clause-grows : goal.returns-in_err-print_bytes-clause-grows
returns-in_err-print_bytes-clause-grows c = c.print_bytes.ensures.grows

pub returns-clause-grows : goal.returns-clause-grows
returns-clause-grows c = grows_on c.args.out.now.items c.print_bytes.new.out.items c.print_width.new.out.items
    c.in_ok-print_bytes.ensures.grows c.print_width.ensures.grows
