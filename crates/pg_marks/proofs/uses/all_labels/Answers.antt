use Rattle.std.proofs.Common.{rules, ap, map, List, ℕ, Option}
use Rattle.pg_marks.specs.Walked.{labels_from, page_text}
use Rattle.pg_marks.proofs.FoundLabels.{none_kept}
use Rattle.pg_marks.proofs.uses.all_labels.Goals as goal

pub pages-init : goal.pages-init
pages-init c = record {
  labels = ap (λ (found : List ℕ → Option ℕ).
      labels_from found 1 (map (page_text c.args.galley.now.blocks) c.args.pages.now))
      (none_kept c.new-labels.result c.new-labels.ensures.empty);
  count = search rules;
  fit = c.requires.fit;
}
