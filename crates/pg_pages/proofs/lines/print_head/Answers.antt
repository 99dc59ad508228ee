use Rattle.std.proofs.Common.{◌∙◌, ◌++◌, ap, ℤ, w64}
use Rattle.std.specs.Prelude.{codes}
use Rattle.std.specs.Int.{w128}
use Rattle.std.proofs.lemmas.Int.{to_z-of_z}
use Rattle.pg_scaled.specs.Scaled.{scaled_text}
use Rattle.pg_words.specs.Written.{line}
use Rattle.pg_pages.specs.PageText.{head_line, head_counts}
use Rattle.pg_pages.proofs.Grown.{on_ok, two_parts}
use Rattle.pg_pages.proofs.lines.print_head.Goals as goal

pub returns-clause-ok : goal.returns-clause-ok
unfolding head_line
returns-clause-ok c =
    let counts = c.in_ok-print_head_counts.ensures.ok
    ∙ ap (λ (cost : ℤ). c.args.out.now.items ++ head_counts c.args.pages cost) (to_z-of_z w128 c.args.cost (record { sfits = c.ranges.cost.sfits })) in
    let width = ap (λ (width : ℤ). line (codes " width " ++ scaled_text width)) (to_z-of_z w64 c.args.width (record { sfits = c.ranges.width.sfits })) in
    on_ok c.print_length_line.result _ _
    (λ printed. two_parts c.args.out.now.items c.print_head_counts.new.out.items c.print_length_line.new.out.items (head_counts c.args.pages c.args.cost) (line (codes " width " ++ scaled_text c.args.width))
    counts (printed ∙ ap (λ text. c.print_head_counts.new.out.items ++ text) width))
    c.print_length_line.ensures.ok
