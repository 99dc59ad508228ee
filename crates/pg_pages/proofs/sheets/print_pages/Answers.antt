use Rattle.pg_pages.proofs.Allowed.{ArePrintable, are_printable}
use Rattle.pg_pages.proofs.sheets.print_pages.Goals as goal

pub print_whole-requires-clause-may : goal.print_whole-requires-clause-may
print_whole-requires-clause-may c =
    let are : ArePrintable c.args.galley.now c.args.style.now c.args.plan.now =
    are_printable c.args.galley.now c.args.style.now c.args.plan.now c.requires.floats.shape
    c.stays_in_range.ensures.wide_in (c.stays_few.ensures _ _ c.requires.floats) c.requires.legal in are.may

pub print_whole-requires-clause-filled : goal.print_whole-requires-clause-filled
print_whole-requires-clause-filled c =
    let are : ArePrintable c.args.galley.now c.args.style.now c.args.plan.now =
    are_printable c.args.galley.now c.args.style.now c.args.plan.now c.requires.floats.shape
    c.stays_in_range.ensures.wide_in (c.stays_few.ensures _ _ c.requires.floats) c.requires.legal in are.filled
