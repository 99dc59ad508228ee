use Rattle.std.proofs.Common.{◌∙◌, ap, sym, ◌++◌, ◌∷◌, []}
use Rattle.pg_list.specs.declared.blocks.Block.TheVariants.{One}
use Rattle.pg_make.proofs.Paragraphs.{skip_later}
use Rattle.pg_make.proofs.galley.push_skip.Goals as goal

pub returns-in_ok-push : goal.returns-in_ok-push
returns-in_ok-push c = c.in_ok-push.ensures.ok
    ∙ (ap (λ item. c.args.blocks.now ++ One item ∷ []) c.in_ok-skip.ensures.value
    ∙ ap (λ xs. c.args.blocks.now ++ xs) (sym (skip_later c.args.paragraph c.if-paragraph-gt0.true)))
