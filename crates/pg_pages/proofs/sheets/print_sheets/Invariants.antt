use Rattle.std.proofs.Common.{◌≡◌, ◌++◌, ◌+◌, [], length}
use Rattle.pg_rules.specs.History.{placed_of}
use Rattle.pg_rules.specs.Legal.{document}
use Rattle.pg_scaled.specs.Scaled.{Grows}
use Rattle.pg_pages.specs.Sheets.{MaySheets, sheets_text}
use Rattle.pg_pages.proofs.sheets.print_sheets.Given as goal

abbrev pub invariant-each : goal.invariant-each
invariant-each l = record {
  text : l.out.items ++ sheets_text (document l.matter.galley.now l.matter.style.now) l.number l.placed l.rest
      ≡ l.fn.out.items ++ sheets_text (document l.matter.galley.now l.matter.style.now) 1
      (placed_of l.matter.style.now []) l.pages;
  may : MaySheets (document l.matter.galley.now l.matter.style.now) l.placed l.rest;
  number : l.number + length l.rest ≡ 1 + length l.pages;
  grows : Grows l.fn.out.items l.out.items;
}

abbrev pub decreases-each : goal.decreases-each
decreases-each l = length l.rest
