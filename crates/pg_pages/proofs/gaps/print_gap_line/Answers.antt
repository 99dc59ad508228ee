use Rattle.std.proofs.Common.{◌≡◌, ◌∙◌, ◌++◌, rules, ap, ℤ, w32, to_z, of_z}
use Rattle.std.specs.Int.{w128}
use Rattle.std.proofs.lemmas.Int.{to_z-of_z}
use Rattle.pg_pages.specs.Gaps.{gap_gives, gap_name, gap_set}
use Rattle.pg_pages.proofs.GapLists.{line_from}
use Rattle.pg_pages.proofs.Grown.{grows_four, grows_on, grows_three, on_ok}
use Rattle.pg_pages.proofs.gaps.print_gap_line.Goals as goal

pub returns-clause-ok : goal.returns-clause-ok
returns-clause-ok c =
    let gap = c.args.gap.now in
    let size : to_z w32 (of_z w32 gap.size) ≡ gap.size = search rules in
    let stretch : to_z w32 (of_z w32 gap.stretch) ≡ gap.stretch = search rules in
    let shrink : to_z w32 (of_z w32 gap.shrink) ≡ gap.shrink = search rules in
    let width = to_z-of_z w128 c.args.width (record { sfits = c.ranges.width.sfits }) in
    let first = c.print_gap_name.new.out.items in
    on_ok c.end_line.result _ _ (λ ended. line_from c.args.name.now gap c.args.width c.args.out.now.items first c.print_gap_gives.new.out.items
    c.print_gap_set.new.out.items c.end_line.new.out.items
    (c.in_ok-print_gap_name.ensures.ok ∙ ap (λ (z : ℤ). c.args.out.now.items ++ gap_name c.args.name.now z) size)
    (c.in_ok-print_gap_gives.ensures.ok
    ∙ ap (λ (z : ℤ). first ++ gap_gives z (to_z w32 (of_z w32 gap.shrink))) stretch
    ∙ ap (λ (z : ℤ). first ++ gap_gives gap.stretch z) shrink)
    (c.in_ok-print_gap_set.ensures.ok ∙ ap (λ (z : ℤ). c.print_gap_gives.new.out.items ++ gap_set z) width)
    ended) c.end_line.ensures.ok

pub returns-in_err-print_gap_name-clause-grows : goal.returns-in_err-print_gap_name-clause-grows
returns-in_err-print_gap_name-clause-grows c = c.print_gap_name.ensures.grows

pub returns-in_err-print_gap_gives-clause-grows : goal.returns-in_err-print_gap_gives-clause-grows
returns-in_err-print_gap_gives-clause-grows c = grows_on c.args.out.now.items c.print_gap_name.new.out.items
    c.print_gap_gives.new.out.items c.in_ok-print_gap_name.ensures.grows c.print_gap_gives.ensures.grows

pub returns-in_err-print_gap_set-clause-grows : goal.returns-in_err-print_gap_set-clause-grows
returns-in_err-print_gap_set-clause-grows c = grows_three c.args.out.now.items c.print_gap_name.new.out.items
    c.print_gap_gives.new.out.items c.print_gap_set.new.out.items c.in_ok-print_gap_name.ensures.grows
    c.in_ok-print_gap_gives.ensures.grows c.print_gap_set.ensures.grows

pub returns-clause-grows : goal.returns-clause-grows
returns-clause-grows c = grows_four c.args.out.now.items c.print_gap_name.new.out.items
    c.print_gap_gives.new.out.items c.print_gap_set.new.out.items c.end_line.new.out.items
    c.in_ok-print_gap_name.ensures.grows c.in_ok-print_gap_gives.ensures.grows c.in_ok-print_gap_set.ensures.grows
    c.end_line.ensures.grows
