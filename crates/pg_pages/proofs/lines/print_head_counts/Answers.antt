use Rattle.pg_pages.proofs.Grown.{grows_on, grows_three}
use Rattle.pg_pages.proofs.lines.print_head_counts.Goals as goal

pub returns-in_err-print_numbered-clause-grows : goal.returns-in_err-print_numbered-clause-grows
returns-in_err-print_numbered-clause-grows c = c.print_numbered.ensures.grows

pub returns-in_err-print_bytes-clause-grows : goal.returns-in_err-print_bytes-clause-grows
returns-in_err-print_bytes-clause-grows c = grows_on c.args.out.now.items c.print_numbered.new.out.items
    c.print_bytes.new.out.items c.in_ok-print_numbered.ensures.grows c.print_bytes.ensures.grows

pub returns-clause-grows : goal.returns-clause-grows
returns-clause-grows c = grows_three c.args.out.now.items c.print_numbered.new.out.items c.print_bytes.new.out.items
    c.print_whole.new.out.items c.in_ok-print_numbered.ensures.grows c.in_ok-print_bytes.ensures.grows
    c.print_whole.ensures.grows
