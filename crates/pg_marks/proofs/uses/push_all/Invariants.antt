use Rattle.std.proofs.Common.{◌≡◌, ◌+◌, ◌++◌, length, map}
use Rattle.pg_marks.specs.Fitting.{AllFit}
use Rattle.pg_marks.specs.Told.{page_in}
use Rattle.pg_marks.specs.Walked.{page_text, uses_from}
use Rattle.pg_marks.proofs.uses.push_all.Given as goal

abbrev pub invariant-pages : goal.invariant-pages
invariant-pages l = record {
  uses : l.references ++ uses_from (page_in l.labels) (l.number + 1) (map (page_text l.galley.blocks) l.rest)
      ≡ l.fn.references ++ uses_from (page_in l.labels) 1 (map (page_text l.galley.blocks) l.pages);
  count : l.number + length l.rest ≡ length l.pages;
  fit : AllFit l.galley.blocks l.rest;
}

abbrev pub decreases-pages : goal.decreases-pages
decreases-pages l = length l.rest
