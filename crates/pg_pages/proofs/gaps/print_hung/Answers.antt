use Rattle.pg_pages.proofs.Grown.{grows_on, grows_three}
use Rattle.pg_pages.proofs.gaps.print_hung.Goals as goal

pub returns-clause-grows : goal.returns-clause-grows
returns-clause-grows c = c.floats.invariant.grows

pub returns-in_err-print_body-clause-grows : goal.returns-in_err-print_body-clause-grows
returns-in_err-print_body-clause-grows c = grows_on c.args.out.now.items c.floats.out.items
    c.print_body.new.out.items c.floats.invariant.grows c.print_body.ensures.grows

pub returns-in_err-left-clause-grows : goal.returns-in_err-left-clause-grows
returns-in_err-left-clause-grows c = grows_three c.args.out.now.items c.floats.out.items
    c.print_body.new.out.items c.print_hung_gap.new.out.items c.floats.invariant.grows
    c.in_ok-print_body.ensures.grows c.print_hung_gap.ensures.grows
