use Rattle.std.proofs.Common.{sym, ◌∙◌}
use Rattle.pg_pages.proofs.Grown.{grows_on}
use Rattle.pg_pages.proofs.GapLists.{no_notes, some_notes}
use Rattle.pg_column.specs.Between.{behind}
use Rattle.pg_pages.proofs.gaps.print_skipped.Goals as goal

pub returns-then-not-has_insert-clause-ok : goal.returns-then-not-has_insert-clause-ok
returns-then-not-has_insert-clause-ok c =
    no_notes (behind c.args.items.now) c.args.class.now.number c.args.class.now.kind c.in-Note.skip c.in-Note.limit
    c.in-Note.is c.args.widths.now c.args.out.now.items (sym c.if-not-has_insert.true ∙ c.has_insert.ensures)

pub returns-clause-ok : goal.returns-clause-ok
returns-clause-ok c =
    some_notes (behind c.args.items.now) c.args.class.now.number c.args.class.now.kind c.in-Note.skip c.in-Note.limit
    c.in-Note.is c.args.widths.now c.args.out.now.items (sym c.if-not-has_insert.false ∙ c.has_insert.ensures)
    c.print_gap.new.out.items c.print_inserts.new.out.items c.in_ok-left.ensures.ok c.in_ok-print_inserts.ensures.ok

pub returns-in_err-left-clause-grows : goal.returns-in_err-left-clause-grows
returns-in_err-left-clause-grows c = c.print_gap.ensures.grows

pub returns-in_err-print_inserts-clause-grows : goal.returns-in_err-print_inserts-clause-grows
returns-in_err-print_inserts-clause-grows c = grows_on c.args.out.now.items c.print_gap.new.out.items
    c.print_inserts.new.out.items c.in_ok-left.ensures.grows c.print_inserts.ensures.grows

pub returns-clause-grows : goal.returns-clause-grows
returns-clause-grows c = grows_on c.args.out.now.items c.print_gap.new.out.items c.print_inserts.new.out.items
    c.in_ok-left.ensures.grows c.in_ok-print_inserts.ensures.grows
