use Rattle.std.proofs.Common.{◌∙◌, ◌++◌, rules, ap, w32}
use Rattle.std.specs.Prelude.{codes}
use Rattle.std.specs.Int.{w128}
use Rattle.std.proofs.lemmas.Int.{to_z-of_z}
use Rattle.pg_scaled.specs.Scaled.{scaled_text}
use Rattle.pg_pages.specs.Gaps.{gap_name}
use Rattle.pg_pages.proofs.Grown.{grows_four, grows_on, grows_three, on_same, on_two, two_parts}
use Rattle.pg_pages.proofs.gaps.print_gap_name.Goals as goal

pub returns-clause-ok : goal.returns-clause-ok
unfolding gap_name
returns-clause-ok c =
    let name = c.args.name.now in
    let old = c.args.out.now.items in
    let first = c.print_bytes.new.out.items in
    let second = c.print_bytes-2.new.out.items in
    let third = c.print_bytes-3.new.out.items in
    let new = c.print_width.new.out.items in
    let size = to_z-of_z w128 c.from.result (record { sfits = search rules }) ∙ c.from.ensures
    ∙ to_z-of_z w32 c.args.size (record { sfits = c.ranges.size.sfits }) in
    on_two c.print_width.result old third new (codes ".\\glue(" ++ name ++ codes ") ") (scaled_text c.args.size)
    (two_parts old second third (codes ".\\glue(" ++ name) (codes ") ")
    (two_parts old first second (codes ".\\glue(") name c.in_ok-print_bytes.ensures.ok c.in_ok-print_bytes-2.ensures.ok)
    c.in_ok-print_bytes-3.ensures.ok)
    (on_same c.print_width.result third new _ (scaled_text c.args.size) (ap scaled_text size) c.print_width.ensures.ok)

pub returns-in_err-print_bytes-clause-grows : goal.returns-in_err-print_bytes-clause-grows
returns-in_err-print_bytes-clause-grows c = c.print_bytes.ensures.grows

pub returns-in_err-print_bytes-2-clause-grows : goal.returns-in_err-print_bytes-2-clause-grows
returns-in_err-print_bytes-2-clause-grows c = grows_on c.args.out.now.items c.print_bytes.new.out.items
    c.print_bytes-2.new.out.items c.in_ok-print_bytes.ensures.grows c.print_bytes-2.ensures.grows

pub returns-in_err-print_bytes-3-clause-grows : goal.returns-in_err-print_bytes-3-clause-grows
returns-in_err-print_bytes-3-clause-grows c = grows_three c.args.out.now.items c.print_bytes.new.out.items
    c.print_bytes-2.new.out.items c.print_bytes-3.new.out.items c.in_ok-print_bytes.ensures.grows
    c.in_ok-print_bytes-2.ensures.grows c.print_bytes-3.ensures.grows

pub returns-clause-grows : goal.returns-clause-grows
returns-clause-grows c = grows_four c.args.out.now.items c.print_bytes.new.out.items c.print_bytes-2.new.out.items
    c.print_bytes-3.new.out.items c.print_width.new.out.items c.in_ok-print_bytes.ensures.grows
    c.in_ok-print_bytes-2.ensures.grows c.in_ok-print_bytes-3.ensures.grows c.print_width.ensures.grows
