use Rattle.std.proofs.Common.{◌≡◌, ◌∙◌, rules, sym, ap, subst, ℤ, ◌≤◌, ◌^◌, arith, List, ◌++◌, length, vec_len, w64, to_z, of_z, ◌<◌}
use Rattle.std.proofs.lemmas.Int.{to_z-of_z}
use Rattle.std.specs.List.{AllByRecursion}
use Rattle.pg_glue.specs.Widths.{IsPrintable}
use Rattle.pg_column.specs.Between.{behind}
use Rattle.pg_style.specs.declared.style.Gap.{Gap}
use Rattle.pg_pages.specs.Gaps.{note_gaps}
use Rattle.pg_pages.specs.SetGlue.{widths_by}
use Rattle.pg_pages.specs.Printed.{lent}
use Rattle.pg_pages.proofs.Grown.{grows_same, on_same}
use Rattle.pg_pages.proofs.Printed.{behind_long}
use Rattle.pg_pages.proofs.SetColumn.{glues_few, read_from, set_printable, widths_are}
use Rattle.std.specs.Prelude.{nat_abs, ◌-ℤ◌}
use Rattle.pg_pages.proofs.column.print_read.Goals as goal

pub widths_of-requires-clause-few : goal.widths_of-requires-clause-few
widths_of-requires-clause-few c =
    let style = c.args.style.now in
    let bodies = lent c.args.placed.now.bodies.now in
    let before = c.args.placed.now.before.now in
    let below = c.args.placed.now.below.now in
    let column = c.args.column.now in
    let items = behind c.args.text.now.items.now in
    let above = c.as_slice-2.ensures.value ∙ c.in_ok-above.ensures in
    let under = c.as_slice-3.ensures.value ∙ c.in_ok-extend_from_slice.ensures.items
    ∙ ap (λ (gaps : List Gap). gaps ++ c.as_slice.result.now) c.in_ok-below.ensures
    ∙ ap (λ (gaps : List Gap). note_gaps style items ++ gaps) (c.as_slice.ensures.value ∙ c.in_ok-bottom_gaps.ensures) in
    let long = behind_long c.args.text.now.items.now in
    let few : length items ≤ 2 ^ 20 = omega (arith, long, c.requires.few) in
    let all = glues_few style bodies before below column items c.stays_in_range.ensures c.requires.top c.requires.bottom
    few in
    omega (arith, all, long, ap length above, ap length under)

pub print_set_column-requires : goal.print_set_column-requires
print_set_column-requires c =
    let style = c.args.style.now in
    let bodies = lent c.args.placed.now.bodies.now in
    let before = c.args.placed.now.before.now in
    let below = c.args.placed.now.below.now in
    let column = c.args.column.now in
    let items = behind c.args.text.now.items.now in
    let above = c.as_slice-2.ensures.value ∙ c.in_ok-above.ensures in
    let under = c.as_slice-3.ensures.value ∙ c.in_ok-extend_from_slice.ensures.items
    ∙ ap (λ (gaps : List Gap). gaps ++ c.as_slice.result.now) c.in_ok-below.ensures
    ∙ ap (λ (gaps : List Gap). note_gaps style items ++ gaps) (c.as_slice.ensures.value ∙ c.in_ok-bottom_gaps.ensures) in
    let goal = to_z-of_z w64 c.args.text.now.numbers.now.goal (record { sfits = search rules }) in
    let total = to_z-of_z w64 c.args.text.now.numbers.now.total (record { sfits = search rules }) in
    let long = behind_long c.args.text.now.items.now in
    let few : length items ≤ 2 ^ 20 = omega (arith, long, c.requires.few) in
    let widths = widths_are style bodies before below column items c.args.text.now.numbers.now.goal
    c.args.text.now.numbers.now.total c.args.text.now.is_spent c.as_slice-4.result.now
    c.as_slice-2.result.now c.as_slice-3.result.now above under (c.as_slice-4.ensures.value ∙ c.in_ok-widths.ensures
    ∙ ap (λ (z : ℤ). widths_by style c.as_slice-2.result.now items c.as_slice-3.result.now z
    (to_z w64 (of_z w64 c.args.text.now.numbers.now.total)) c.args.text.now.is_spent) goal
    ∙ ap (λ (z : ℤ). widths_by style c.as_slice-2.result.now items c.as_slice-3.result.now
    c.args.text.now.numbers.now.goal z
    c.args.text.now.is_spent) total) in
    subst (AllByRecursion IsPrintable) (sym widths)
    (set_printable style bodies before below column items c.stays_in_range.ensures c.requires.ranges
    c.args.text.now.numbers.now.goal c.args.text.now.numbers.now.total c.args.text.now.is_spent c.requires.top
    c.requires.bottom few c.requires.excess)

pub returns-clause-ok : goal.returns-clause-ok
returns-clause-ok c =
    let style = c.args.style.now in
    let bodies = lent c.args.placed.now.bodies.now in
    let before = c.args.placed.now.before.now in
    let below = c.args.placed.now.below.now in
    let column = c.args.column.now in
    let items = behind c.args.text.now.items.now in
    let above = c.as_slice-2.ensures.value ∙ c.in_ok-above.ensures in
    let under = c.as_slice-3.ensures.value ∙ c.in_ok-extend_from_slice.ensures.items
    ∙ ap (λ (gaps : List Gap). gaps ++ c.as_slice.result.now) c.in_ok-below.ensures
    ∙ ap (λ (gaps : List Gap). note_gaps style items ++ gaps) (c.as_slice.ensures.value ∙ c.in_ok-bottom_gaps.ensures) in
    let goal = to_z-of_z w64 c.args.text.now.numbers.now.goal (record { sfits = search rules }) in
    let total = to_z-of_z w64 c.args.text.now.numbers.now.total (record { sfits = search rules }) in
    let widths = widths_are style bodies before below column items c.args.text.now.numbers.now.goal
    c.args.text.now.numbers.now.total c.args.text.now.is_spent c.as_slice-4.result.now
    c.as_slice-2.result.now c.as_slice-3.result.now above under (c.as_slice-4.ensures.value ∙ c.in_ok-widths.ensures
    ∙ ap (λ (z : ℤ). widths_by style c.as_slice-2.result.now items c.as_slice-3.result.now z
    (to_z w64 (of_z w64 c.args.text.now.numbers.now.total)) c.args.text.now.is_spent) goal
    ∙ ap (λ (z : ℤ). widths_by style c.as_slice-2.result.now items c.as_slice-3.result.now
    c.args.text.now.numbers.now.goal z
    c.args.text.now.is_spent) total) in
    let first : vec_len c.in_ok-above.above ≡ length c.in_ok-above.above.items = c.in_ok-above.above.ok.0 in
    let second : vec_len c.in_ok-below.below ≡ length c.in_ok-below.below.items = c.in_ok-below.below.ok.0 in
    let many = c.len.ensures ∙ first ∙ ap length c.in_ok-above.ensures in
    let noted = c.len-noted.ensures ∙ second ∙ ap length c.in_ok-below.ensures in
    on_same c.print_set_column.result c.args.out.now.items c.print_set_column.new.out.items _ _
    (read_from style bodies before below column items c.args.text.now.numbers.now c.args.text.now.is_spent
    c.as_slice-4.result.now _ _ _
    widths many c.count_glue.ensures noted)
    c.print_set_column.ensures.ok

pub widths_of-requires-clause-excess : goal.widths_of-requires-clause-excess
widths_of-requires-clause-excess c =
    let it = c.args.text.now.numbers.now in
    let aim = to_z-of_z w64 it.goal (record { sfits = search rules }) in
    let total = to_z-of_z w64 it.total (record { sfits = search rules }) in
    subst (λ (z : ℤ). nat_abs (to_z w64 (of_z w64 it.goal) -ℤ z) < 2 ^ 52) (sym total)
    (subst (λ (z : ℤ). nat_abs (z -ℤ it.total) < 2 ^ 52) (sym aim) c.requires.excess)

pub returns-clause-grows : goal.returns-clause-grows
returns-clause-grows c = c.print_set_column.ensures.grows

pub returns-in_err-above-clause-grows : goal.returns-in_err-above-clause-grows
returns-in_err-above-clause-grows c = grows_same c.args.out.now.items

pub returns-in_err-below-clause-grows : goal.returns-in_err-below-clause-grows
returns-in_err-below-clause-grows c = grows_same c.args.out.now.items

pub returns-in_err-bottom_gaps-clause-grows : goal.returns-in_err-bottom_gaps-clause-grows
returns-in_err-bottom_gaps-clause-grows c = grows_same c.args.out.now.items

pub returns-in_err-extend_from_slice-clause-grows : goal.returns-in_err-extend_from_slice-clause-grows
returns-in_err-extend_from_slice-clause-grows c = grows_same c.args.out.now.items

pub returns-in_err-widths-clause-grows : goal.returns-in_err-widths-clause-grows
returns-in_err-widths-clause-grows c = grows_same c.args.out.now.items
