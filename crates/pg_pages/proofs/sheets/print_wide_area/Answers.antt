use Rattle.std.proofs.Common.{◌≡◌, ◌∙◌, sym, ap, ℕ, List, [], length, vec_len}
use Rattle.std.specs.Prelude.{if◌then◌else◌}
use Rattle.pg_style.specs.Values.{StyleValue}
use Rattle.pg_rules.specs.Floats.{dealt_from}
use Rattle.pg_pages.specs.Gaps.{hung_gaps, shows_gaps}
use Rattle.pg_pages.specs.SetGlue.{own_sizes}
use Rattle.pg_pages.specs.Printed.{lent}
use Rattle.pg_pages.proofs.Grown.{grows_same, on_same}
use Rattle.pg_pages.proofs.Printed.{behind_long}
use Rattle.pg_pages.proofs.SetColumn.{wide_from, wides_printable}
use Rattle.pg_pages.proofs.sheets.print_wide_area.Goals as goal

pub print_wide_set-requires : goal.print_wide_set-requires
print_wide_set-requires c =
    let style = c.args.style.now in
    let bodies = lent c.args.bodies.now in
    let placed = c.args.placed.now in
    let counts = c.args.page.now.wide in
    let all : vec_len c.in_ok-dealt.dealt ≡ length c.in_ok-dealt.dealt.items = c.in_ok-dealt.dealt.ok.0 in
    let long = c.len.ensures ∙ all ∙ sym (behind_long c.in_ok-dealt.dealt.items) ∙ ap length c.in_ok-dealt.ensures
    ∙ ap (λ (xs : List ℕ). length (dealt_from 0 bodies xs c.as_slice-counts.result.now)) c.as_slice-before.ensures
    ∙ ap (λ (xs : List ℕ). length (dealt_from 0 bodies placed xs)) c.as_slice-counts.ensures in
    let sizes = c.as_slice-2.ensures.value ∙ c.in_ok-sizes.ensures ∙ ap own_sizes (c.as_slice.ensures.value
    ∙ c.in_ok-gaps.ensures
    ∙ ap (λ (it : StyleValue). if shows_gaps style then hung_gaps it.wide c.len.result else []) c.style.view_is
    ∙ ap (λ (n : ℕ). if shows_gaps style then hung_gaps style.wide n else []) long) in
    wides_printable style bodies placed counts c.stays_in_range.ensures c.as_slice-2.result.now sizes

pub returns-clause-ok : goal.returns-clause-ok
returns-clause-ok c =
    let style = c.args.style.now in
    let bodies = lent c.args.bodies.now in
    let placed = c.args.placed.now in
    let counts = c.args.page.now.wide in
    let all : vec_len c.in_ok-dealt.dealt ≡ length c.in_ok-dealt.dealt.items = c.in_ok-dealt.dealt.ok.0 in
    let long = c.len.ensures ∙ all ∙ sym (behind_long c.in_ok-dealt.dealt.items) ∙ ap length c.in_ok-dealt.ensures
    ∙ ap (λ (xs : List ℕ). length (dealt_from 0 bodies xs c.as_slice-counts.result.now)) c.as_slice-before.ensures
    ∙ ap (λ (xs : List ℕ). length (dealt_from 0 bodies placed xs)) c.as_slice-counts.ensures in
    let sizes = c.as_slice-2.ensures.value ∙ c.in_ok-sizes.ensures ∙ ap own_sizes (c.as_slice.ensures.value
    ∙ c.in_ok-gaps.ensures
    ∙ ap (λ (it : StyleValue). if shows_gaps style then hung_gaps it.wide c.len.result else []) c.style.view_is
    ∙ ap (λ (n : ℕ). if shows_gaps style then hung_gaps style.wide n else []) long) in
    on_same c.print_wide_set.result c.args.out.now.items c.print_wide_set.new.out.items _ _
    (wide_from style bodies placed counts c.as_slice-before.result.now c.as_slice-counts.result.now
    c.as_slice-before.ensures c.as_slice-counts.ensures c.as_slice-2.result.now sizes)
    c.print_wide_set.ensures.ok

pub returns-clause-grows : goal.returns-clause-grows
returns-clause-grows c = c.print_wide_set.ensures.grows

pub returns-in_err-dealt-clause-grows : goal.returns-in_err-dealt-clause-grows
returns-in_err-dealt-clause-grows c = grows_same c.args.out.now.items

pub returns-in_err-gaps-clause-grows : goal.returns-in_err-gaps-clause-grows
returns-in_err-gaps-clause-grows c = grows_same c.args.out.now.items

pub returns-in_err-sizes-clause-grows : goal.returns-in_err-sizes-clause-grows
returns-in_err-sizes-clause-grows c = grows_same c.args.out.now.items
