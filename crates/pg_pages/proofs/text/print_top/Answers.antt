use Rattle.std.proofs.Common.{◌∙◌, ◌++◌, ap, ℤ, w32, w64, rules}
use Rattle.std.specs.Prelude.{codes}
use Rattle.std.proofs.lemmas.Int.{to_z-of_z}
use Rattle.pg_list.specs.Totals.{top_glue}
use Rattle.pg_scaled.specs.Scaled.{scaled_text}
use Rattle.pg_words.specs.Written.{line}
use Rattle.pg_pages.proofs.Grown.{on_ok}
use Rattle.pg_column.specs.Between.{behind}
use Rattle.pg_pages.proofs.text.print_top.Goals as goal

pub returns-clause-ok : goal.returns-clause-ok
returns-clause-ok c =
    let space = to_z-of_z w64 c.top_glue.result (record { sfits = search rules }) ∙ c.top_glue.ensures
    ∙ ap (λ (topskip : ℤ). top_glue topskip (behind c.args.items.now))
    (to_z-of_z w32 c.args.topskip (record { sfits = c.ranges.topskip.sfits })) in
    on_ok c.print_length_line.result _ _
    (λ printed. printed
    ∙ ap (λ (length : ℤ). c.args.out.now.items ++ line (codes ".\\glue(\\topskip) " ++ scaled_text length)) space)
    c.print_length_line.ensures.ok
