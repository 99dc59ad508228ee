use Rattle.std.proofs.Common.{◌∙◌, ap, sym, subst}
use Rattle.std.specs.Prelude.{reverse}
use Rattle.law_columns.specs.Pages.{plan_of}
use Rattle.pg_plan.specs.declared.pages.Pagination.{Pagination}
use Rattle.pg_style.specs.Values.{StyleValue}
use Rattle.pg_furthest.specs.Furthest.{Begins}
use Rattle.pg_furthest.proofs.telling.beginning_in.Goals as goal

pub returns : goal.returns
returns c = subst (λ (plan : Pagination).
    Begins c.args.galley.now c.args.style.now c.args.labels.now c.args.label plan)
    (sym (c.in_ok-plan.ensures ∙ ap (λ (style : StyleValue). plan_of style (reverse c.in_ok-moves.moves))
    c.new-space.ensures.style))
    (c.beginnings_of_labels.ensures.begins c.args.labels.now c.args.label (reverse c.in_ok-moves.moves)
    c.requires.filled c.in_ok-moves.ensures)
