use Rattle.pg_pages.proofs.Grown.{grows_on, grows_three}
use Rattle.pg_pages.proofs.lines.print_ends.Goals as goal

pub returns-in_err-print_numbered-clause-grows : goal.returns-in_err-print_numbered-clause-grows
returns-in_err-print_numbered-clause-grows c = c.print_numbered.ensures.grows

pub returns-in_err-print_place_of-clause-grows : goal.returns-in_err-print_place_of-clause-grows
returns-in_err-print_place_of-clause-grows c = grows_on c.args.out.now.items c.print_numbered.new.out.items
    c.print_place_of.new.out.items c.in_ok-print_numbered.ensures.grows c.print_place_of.ensures.grows

pub returns-clause-grows : goal.returns-clause-grows
returns-clause-grows c = grows_three c.args.out.now.items c.print_numbered.new.out.items
    c.print_place_of.new.out.items c.print_place_of-2.new.out.items c.in_ok-print_numbered.ensures.grows
    c.in_ok-print_place_of.ensures.grows c.print_place_of-2.ensures.grows
