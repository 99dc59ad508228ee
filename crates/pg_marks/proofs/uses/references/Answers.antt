use Rattle.std.proofs.Common.{◌∙◌, ◌++◌, sym, ap, map, List, ℕ, Option}
use Rattle.pg_plan.specs.declared.pages.Page.{Page}
use Rattle.pg_marks.specs.Told.{page_in}
use Rattle.pg_marks.specs.Walked.{labels_from, no_pages, page_text, uses_from}
use Rattle.pg_marks.specs.declared.lists.Reference.{Reference}
use Rattle.pg_marks.proofs.FoundLabels.{references_found}
use Rattle.pg_marks.proofs.uses.references.Goals as goal

pub returns : goal.returns
returns c =
    let blocks = c.args.galley.now.blocks in
    let pages = c.as_slice-pages.result.now in
    c.in_ok-push_all.ensures
    ∙ (ap (λ (front : List Reference).
    front ++ uses_from (page_in c.in_ok-labels.labels) 1 (map (page_text blocks) pages))
    c.new-references.ensures
    ∙ (ap (λ (labels : List ℕ → Option ℕ). uses_from labels 1 (map (page_text blocks) pages)) c.in_ok-labels.ensures
    ∙ (ap (λ (ps : List Page).
    uses_from (labels_from no_pages 1 (map (page_text blocks) ps)) 1 (map (page_text blocks) ps))
    c.as_slice-pages.ensures
    ∙ sym (references_found blocks c.args.plan.now.pages))))
