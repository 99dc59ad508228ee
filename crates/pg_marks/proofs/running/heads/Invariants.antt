use Rattle.std.proofs.Common.{◌≡◌, ◌++◌, [], length, map}
use Rattle.pg_marks.specs.Fitting.{AllFit}
use Rattle.pg_marks.specs.Walked.{heads_from, page_text}
use Rattle.pg_marks.proofs.running.heads.Given as goal

abbrev pub invariant-pages : goal.invariant-pages
invariant-pages l = record {
  heads : l.heads ++ heads_from l.top (map (page_text l.galley.blocks) l.rest)
      ≡ heads_from [] (map (page_text l.galley.blocks) l.plan.pages);
  fit : AllFit l.galley.blocks l.rest;
}

abbrev pub decreases-pages : goal.decreases-pages
decreases-pages l = length l.rest
