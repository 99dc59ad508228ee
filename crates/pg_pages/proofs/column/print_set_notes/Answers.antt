use Rattle.std.proofs.Common.{◌∙◌, sym, ap}
use Rattle.pg_column.specs.Between.{behind}
use Rattle.pg_style.specs.Values.{StyleValue}
use Rattle.pg_pages.proofs.Grown.{on_same}
use Rattle.pg_pages.proofs.Shown.{plainly_shown, skipped_shown}
use Rattle.pg_pages.proofs.column.print_set_notes.Goals as goal

pub returns-then-shows_gaps-clause-ok : goal.returns-then-shows_gaps-clause-ok
returns-then-shows_gaps-clause-ok c =
    on_same c.print_skipped_notes.result c.args.out.now.items c.print_skipped_notes.new.out.items _ _
    (skipped_shown c.args.style.now (behind c.args.items.now) c.args.widths.now c.as_slice-classes.result.now
    (sym c.shows_gaps.ensures ∙ c.if-shows_gaps.true)
    (c.as_slice-classes.ensures.classes ∙ ap (λ (style : StyleValue). style.classes) c.style.view_is))
    c.print_skipped_notes.ensures.ok

pub returns-else-shows_gaps-clause-ok : goal.returns-else-shows_gaps-clause-ok
returns-else-shows_gaps-clause-ok c =
    on_same c.print_notes.result c.args.out.now.items c.print_notes.new.out.items _ _
    (plainly_shown c.args.style.now (behind c.args.items.now) c.args.widths.now c.as_slice-classes.result.now
    (sym c.shows_gaps.ensures ∙ c.if-shows_gaps.false)
    (c.as_slice-classes.ensures.classes ∙ ap (λ (style : StyleValue). style.classes) c.style.view_is))
    c.print_notes.ensures.ok
