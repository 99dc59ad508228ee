use Rattle.pg_pages.proofs.Grown.{grows_on, grows_three}
use Rattle.pg_pages.proofs.gaps.print_standing.Goals as goal

pub returns-clause-grows : goal.returns-clause-grows
returns-clause-grows c = grows_three c.args.out.now.items c.print_gap.new.out.items c.print_body.new.out.items
    c.print_separated.new.out.items c.in_ok-left.ensures.grows c.in_ok-print_body.ensures.grows
    c.print_separated.ensures.grows

pub returns-in_err-print_body-clause-grows : goal.returns-in_err-print_body-clause-grows
returns-in_err-print_body-clause-grows c = grows_on c.args.out.now.items c.print_gap.new.out.items
    c.print_body.new.out.items c.in_ok-left.ensures.grows c.print_body.ensures.grows
