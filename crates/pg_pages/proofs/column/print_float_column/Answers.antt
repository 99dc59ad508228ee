use Rattle.std.proofs.Common.{◌∙◌, ap, ℕ, ◌++◌}
use Rattle.std.specs.Prelude.{codes, decimal}
use Rattle.pg_words.specs.Written.{line}
use Rattle.pg_pages.specs.SetGlue.{own_sizes}
use Rattle.pg_pages.specs.Printed.{lent}
use Rattle.pg_pages.proofs.Grown.{grows_on, grows_same, grows_three, on_ok}
use Rattle.pg_pages.proofs.SetColumn.{bare_from, bottoms_printable, tops_printable}
use Rattle.pg_pages.proofs.column.print_float_column.Goals as goal

pub print_top_area-requires : goal.print_top_area-requires
print_top_area-requires c =
    tops_printable c.args.style.now (lent c.args.placed.now.bodies.now) c.args.placed.now.before.now
    c.args.placed.now.below.now
    c.args.column.now c.stays_in_range.ensures c.as_slice-3.result.now (c.as_slice-3.ensures.value ∙ c.in_ok-top.ensures
    ∙ ap own_sizes (c.as_slice.ensures.value ∙ c.in_ok-above.ensures))

pub print_bottom_area-requires : goal.print_bottom_area-requires
print_bottom_area-requires c =
    bottoms_printable c.args.style.now (lent c.args.placed.now.bodies.now) c.args.placed.now.before.now
    c.args.placed.now.below.now
    c.args.column.now c.stays_in_range.ensures c.as_slice-4.result.now (c.as_slice-4.ensures.value
    ∙ c.in_ok-bottom.ensures ∙ ap own_sizes (c.as_slice-2.ensures.value ∙ c.in_ok-below.ensures))

pub returns-clause-ok : goal.returns-clause-ok
returns-clause-ok c =
    on_ok c.print_bottom_area.result _ _
    (λ printed. bare_from c.args.style.now (lent c.args.placed.now.bodies.now) c.args.placed.now.before.now
    c.args.placed.now.below.now c.args.column.now c.args.out.now.items c.print_number_line.new.out.items
    c.print_top_area.new.out.items c.print_bottom_area.new.out.items c.as_slice-3.result.now c.as_slice-4.result.now
    (c.as_slice-3.ensures.value ∙ c.in_ok-top.ensures
    ∙ ap own_sizes (c.as_slice.ensures.value ∙ c.in_ok-above.ensures))
    (c.as_slice-4.ensures.value ∙ c.in_ok-bottom.ensures
    ∙ ap own_sizes (c.as_slice-2.ensures.value ∙ c.in_ok-below.ensures))
    (c.in_ok-print_number_line.ensures.ok
    ∙ ap (λ (n : ℕ). c.args.out.now.items ++ line (codes "without text demerits " ++ decimal n))
    c.float_demerits.ensures) c.in_ok-print_top_area.ensures.ok printed)
    c.print_bottom_area.ensures.ok

pub returns-clause-grows : goal.returns-clause-grows
returns-clause-grows c = grows_three c.args.out.now.items c.print_number_line.new.out.items
    c.print_top_area.new.out.items c.print_bottom_area.new.out.items c.in_ok-print_number_line.ensures.grows
    c.in_ok-print_top_area.ensures.grows c.print_bottom_area.ensures.grows

pub returns-in_err-above-clause-grows : goal.returns-in_err-above-clause-grows
returns-in_err-above-clause-grows c = grows_same c.args.out.now.items

pub returns-in_err-below-clause-grows : goal.returns-in_err-below-clause-grows
returns-in_err-below-clause-grows c = grows_same c.args.out.now.items

pub returns-in_err-top-clause-grows : goal.returns-in_err-top-clause-grows
returns-in_err-top-clause-grows c = grows_same c.args.out.now.items

pub returns-in_err-bottom-clause-grows : goal.returns-in_err-bottom-clause-grows
returns-in_err-bottom-clause-grows c = grows_same c.args.out.now.items

pub returns-in_err-print_number_line-clause-grows : goal.returns-in_err-print_number_line-clause-grows
returns-in_err-print_number_line-clause-grows c = c.print_number_line.ensures.grows

pub returns-in_err-print_top_area-clause-grows : goal.returns-in_err-print_top_area-clause-grows
returns-in_err-print_top_area-clause-grows c = grows_on c.args.out.now.items c.print_number_line.new.out.items
    c.print_top_area.new.out.items c.in_ok-print_number_line.ensures.grows c.print_top_area.ensures.grows
