use Rattle.pg_pages.proofs.Grown.{grows_on}
use Rattle.pg_pages.proofs.areas.print_dealt.Goals as goal

pub returns-clause-grows : goal.returns-clause-grows
returns-clause-grows c = c.each.invariant.grows

pub returns-in_err-print_bodies-clause-grows : goal.returns-in_err-print_bodies-clause-grows
returns-in_err-print_bodies-clause-grows c = grows_on c.args.out.now.items c.each.out.items c.print_bodies.new.out.items
    c.each.invariant.grows c.print_bodies.ensures.grows
