use Rattle.pg_pages.proofs.Grown.{grows_on}
use Rattle.pg_pages.proofs.text.print_set_items.Goals as goal

pub returns-clause-grows : goal.returns-clause-grows
returns-clause-grows c = c.items.invariant.grows

pub returns-in_err-left-clause-grows : goal.returns-in_err-left-clause-grows
returns-in_err-left-clause-grows c = grows_on c.args.out.now.items c.items.out.items c.print_set_item.new.out.items
    c.items.invariant.grows c.print_set_item.ensures.grows
