use Rattle.std.proofs.Common.{◌≡◌, ◌+◌, length, map}
use Rattle.pg_marks.specs.Fitting.{AllFit}
use Rattle.pg_marks.specs.Told.{page_in}
use Rattle.pg_marks.specs.Walked.{labels_from, no_pages, page_text}
use Rattle.pg_marks.proofs.uses.all_labels.Given as goal

abbrev pub invariant-pages : goal.invariant-pages
invariant-pages l = record {
  labels : labels_from (page_in l.labels) (l.number + 1) (map (page_text l.galley.blocks) l.rest)
      ≡ labels_from no_pages 1 (map (page_text l.galley.blocks) l.pages);
  count : l.number + length l.rest ≡ length l.pages;
  fit : AllFit l.galley.blocks l.rest;
}

abbrev pub decreases-pages : goal.decreases-pages
decreases-pages l = length l.rest
