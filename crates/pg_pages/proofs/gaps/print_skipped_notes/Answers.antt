use Rattle.pg_pages.proofs.Grown.{grows_on}
use Rattle.pg_pages.proofs.gaps.print_skipped_notes.Goals as goal

pub returns-clause-grows : goal.returns-clause-grows
returns-clause-grows c = c.classes.invariant.grows

pub returns-in_err-left-clause-grows : goal.returns-in_err-left-clause-grows
returns-in_err-left-clause-grows c = grows_on c.args.out.now.items c.classes.out.items c.print_skipped.new.out.items
    c.classes.invariant.grows c.print_skipped.ensures.grows
