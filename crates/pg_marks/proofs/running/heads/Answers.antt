use Rattle.std.proofs.Common.{◌≡◌, ◌∙◌, ◌++◌, [], sym, ap, map, List, append-nil, arith}
use Rattle.pg_lemmas.proofs.Lists.{no_items}
use Rattle.pg_plan.specs.declared.pages.Page.{Page}
use Rattle.pg_marks.specs.Walked.{heads_from, page_text}
use Rattle.pg_marks.proofs.Carried.{heads_carried}
use Rattle.pg_marks.proofs.running.heads.Goals as goal

pub returns : goal.returns
returns c =
    let none : c.pages.rest.now ≡ [] = no_items c.pages.rest.now (omega (arith, c.in_default.len_below)) in
    sym (append-nil c.pages.heads)
    ∙ (ap (λ (rest : List Page). c.pages.heads ++ heads_from c.pages.top.now
    (map (page_text c.args.galley.now.blocks) rest))
    (sym none)
    ∙ (c.pages.invariant.heads ∙ sym (heads_carried c.args.galley.now.blocks c.args.plan.now.pages)))
