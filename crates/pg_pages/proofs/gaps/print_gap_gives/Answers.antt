use Rattle.pg_pages.proofs.Grown.{grows_on, on_same, on_two}
use Rattle.std.proofs.Common.{◌∙◌, ◌++◌, ap, w32, ℤ}
use Rattle.std.specs.Prelude.{codes}
use Rattle.std.proofs.lemmas.Int.{to_z-of_z}
use Rattle.pg_pages.specs.Gaps.{gap_gives, part_text}
use Rattle.pg_pages.proofs.gaps.print_gap_gives.Goals as goal

pub returns-in_err-print_part-clause-grows : goal.returns-in_err-print_part-clause-grows
returns-in_err-print_part-clause-grows c = c.print_part.ensures.grows

pub returns-clause-grows : goal.returns-clause-grows
returns-clause-grows c = grows_on c.args.out.now.items c.print_part.new.out.items c.print_part-2.new.out.items
    c.in_ok-print_part.ensures.grows c.print_part-2.ensures.grows

pub returns-clause-ok : goal.returns-clause-ok
unfolding gap_gives
returns-clause-ok c =
    let old = c.args.out.now.items in
    let mid = c.print_part.new.out.items in
    let new = c.print_part-2.new.out.items in
    let plus = part_text (codes " plus ") in
    let minus = part_text (codes " minus ") in
    let stretch = to_z-of_z w32 c.args.stretch (record { sfits = c.ranges.stretch.sfits }) in
    let shrink = to_z-of_z w32 c.args.shrink (record { sfits = c.ranges.shrink.sfits }) in
    on_two c.print_part-2.result old mid new (plus c.args.stretch) (minus c.args.shrink)
    (c.in_ok-print_part.ensures.ok ∙ ap (λ (z : ℤ). old ++ plus z) stretch)
    (on_same c.print_part-2.result mid new _ (minus c.args.shrink) (ap minus shrink) c.print_part-2.ensures.ok)
