use Rattle.std.proofs.Common.{sym, ap, ◌∙◌, ◌+◌, [], append-nil, List, ℕ, map, length}
use Rattle.std.specs.List.{range_with_len}
use Rattle.pg_rules.specs.Floats.{entry}
use Rattle.pg_rules.specs.Legal.{document}
use Rattle.pg_pages.specs.Seated.{seated}
use Rattle.pg_pages.proofs.Grown.{grown, on_same}
use Rattle.pg_pages.proofs.Shown.{fit_as}
use Rattle.pg_pages.proofs.TextColumn.{bodies_long, body_of_floats, summed}
use Rattle.pg_pages.proofs.column.print_column_body.Goals as goal

pub added-requires : goal.added-requires
added-requires c = fit_as _ _ _ _ c.as_slice.ensures c.as_slice-then-is_same_place.ensures c.requires.may.tops_fit

pub returns-in_ok-below-clause-ok : goal.returns-in_ok-below-clause-ok
returns-in_ok-below-clause-ok c =
    let doc = document c.args.matter.now.galley.now c.args.matter.now.style.now in
    let it = seated doc c.args.seat.now c.args.column.now in
    let below = c.as_slice-then-is_same_place-3.ensures ∙ c.in_ok-below.ensures
    ∙ ap (λ (a : List ℕ). map (λ (slot : ℕ). entry a slot + entry c.as_slice-then-is_same_place.result.now slot)
    (range_with_len 0 (length c.args.matter.now.bodies.now))) c.as_slice.ensures
    ∙ ap (λ (b : List ℕ). map (λ (slot : ℕ). entry c.args.seat.now.before slot + entry b slot)
    (range_with_len 0 (length c.args.matter.now.bodies.now))) c.as_slice-then-is_same_place.ensures
    ∙ summed doc c.args.seat.now.before c.args.column.now.top (length c.args.matter.now.bodies.now)
    (bodies_long doc _ c.args.matter.now.bodies.now c.requires.bodies) in
    on_same c.print_float_column.result c.args.out.now.items c.print_float_column.new.out.items _ _
    (body_of_floats it (sym c.is_same_place.ensures ∙ c.if-is_same_place.true) _ _ _ c.requires.bodies
    c.as_slice-then-is_same_place-2.ensures below)
    c.print_float_column.ensures.ok

pub print_text_column-requires-clause-floats : goal.print_text_column-requires-clause-floats
print_text_column-requires-clause-floats c = c.requires.floats

pub print_text_column-requires-clause-bodies : goal.print_text_column-requires-clause-bodies
print_text_column-requires-clause-bodies c = c.requires.bodies

pub print_text_column-requires-clause-may : goal.print_text_column-requires-clause-may
print_text_column-requires-clause-may c = c.requires.may

pub returns-in_err-below-clause-grows : goal.returns-in_err-below-clause-grows
returns-in_err-below-clause-grows c = grown c.args.out.now.items [] c.args.out.now.items
    (sym (append-nil c.args.out.now.items))
