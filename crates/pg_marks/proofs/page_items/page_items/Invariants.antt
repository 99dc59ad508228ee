use Rattle.std.proofs.Common.{◌≡◌, ◌++◌, length}
use Rattle.std.specs.List.{AllByRecursion, flat_map}
use Rattle.pg_column.specs.Between.{behind, column_text}
use Rattle.pg_marks.specs.Fitting.{Fits}
use Rattle.pg_marks.specs.Walked.{page_text}
use Rattle.pg_marks.proofs.page_items.page_items.Given as goal

abbrev pub invariant-columns : goal.invariant-columns
invariant-columns l = record {
  text : behind l.items.items ++ flat_map (column_text l.galley.blocks) l.rest ≡ page_text l.galley.blocks l.page;
  fit : AllByRecursion (Fits l.galley.blocks) l.rest;
}

abbrev pub decreases-columns : goal.decreases-columns
decreases-columns l = length l.rest
