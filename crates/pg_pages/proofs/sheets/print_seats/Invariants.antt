use Rattle.std.proofs.Common.{◌≡◌, ◌++◌, ◌+◌, length}
use Rattle.pg_rules.specs.Legal.{document}
use Rattle.pg_scaled.specs.Scaled.{Grows}
use Rattle.pg_pages.specs.Sheets.{MayFrom, columns_from, placed_from}
use Rattle.pg_pages.proofs.sheets.print_seats.Given as goal

abbrev pub invariant-each : goal.invariant-each
invariant-each l = record {
  run : l.seat.run ≡ l.fn.seat.run;
  wide : l.seat.wide ≡ l.fn.seat.wide;
  text : l.out.items ++ columns_from (document l.matter.galley.now l.matter.style.now) l.fn.seat.run l.fn.seat.wide
      l.number l.seat.before l.rest
      ≡ l.fn.out.items ++ columns_from (document l.matter.galley.now l.matter.style.now) l.fn.seat.run l.fn.seat.wide
      1 l.fn.seat.before l.columns;
  placed : placed_from l.matter.style.now l.seat.before l.rest
      ≡ placed_from l.matter.style.now l.fn.seat.before l.columns;
  may : MayFrom (document l.matter.galley.now l.matter.style.now) l.fn.seat.run l.fn.seat.wide l.seat.before l.rest;
  number : l.number + length l.rest ≡ 1 + length l.columns;
  grows : Grows l.fn.out.items l.out.items;
}

abbrev pub decreases-each : goal.decreases-each
decreases-each l = length l.rest
