use Rattle.std.proofs.Common.{[], ◌∷◌}
use Rattle.pg_words.specs.Written.{line}
use Rattle.pg_pages.specs.PageText.{column_counts, column_ends}
use Rattle.pg_pages.proofs.Grown.{grows_on, grows_three, on_ok, two_parts}
use Rattle.pg_pages.proofs.lines.print_column_line.Goals as goal

pub returns-clause-ok : goal.returns-clause-ok
returns-clause-ok c =
    let column = c.args.column.now in
    let old = c.args.out.now.items in
    let first = c.print_ends.new.out.items in
    let new = c.end_line.new.out.items in
    on_ok c.end_line.result _ _ (λ ended. two_parts old first new (column_ends c.args.number column)
    (line (column_counts column)) c.in_ok-print_ends.ensures.ok (two_parts first c.print_column_counts.new.out.items new
    (column_counts column) (10 ∷ []) c.in_ok-print_column_counts.ensures.ok ended)) c.end_line.ensures.ok

pub returns-in_err-print_ends-clause-grows : goal.returns-in_err-print_ends-clause-grows
returns-in_err-print_ends-clause-grows c = c.print_ends.ensures.grows

pub returns-in_err-print_column_counts-clause-grows : goal.returns-in_err-print_column_counts-clause-grows
returns-in_err-print_column_counts-clause-grows c = grows_on c.args.out.now.items c.print_ends.new.out.items
    c.print_column_counts.new.out.items c.in_ok-print_ends.ensures.grows c.print_column_counts.ensures.grows

pub returns-clause-grows : goal.returns-clause-grows
returns-clause-grows c = grows_three c.args.out.now.items c.print_ends.new.out.items
    c.print_column_counts.new.out.items c.end_line.new.out.items c.in_ok-print_ends.ensures.grows
    c.in_ok-print_column_counts.ensures.grows c.end_line.ensures.grows
