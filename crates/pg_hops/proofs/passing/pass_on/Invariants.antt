use Rattle.std.proofs.Common.{◌≡◌, ◌+◌, length, true}
use Rattle.std.specs.Prelude.{max}
use Rattle.pg_rules.specs.Legal.{document}
use Rattle.pg_column.specs.Passed.{fits}
use Rattle.law_walk.specs.Reached.{reach_along}
use Rattle.law_walk.specs.Walk.{past_stretch}
use Rattle.pg_hops.specs.Ahead.{IsSettled, front_ahead, items_ahead}
use Rattle.pg_hops.specs.View.{IsFor, view}
use Rattle.pg_hops.proofs.passing.pass_on.Given as goal

abbrev pub invariant-ahead : goal.invariant-ahead
invariant-ahead l = record {
  settled : IsSettled l.galley.blocks l.at;
  front : front_ahead l.galley.blocks l.at ≡ front_ahead l.galley.blocks l.fn.start;
  style : IsFor l.style l.passed;
  bound : fits l.passed.bound l.top ≡ true;
  sums : l.passed.sums.count + length (items_ahead l.galley.blocks l.at)
      ≡ l.fn.before.sums.count + length (items_ahead l.galley.blocks l.fn.start);
  notes : l.passed.notes.count + length (items_ahead l.galley.blocks l.at)
      ≡ l.fn.before.notes.count + length (items_ahead l.galley.blocks l.fn.start);
  past : past_stretch (document l.galley l.style) l.top (view l.passed) (items_ahead l.galley.blocks l.at)
      ≡ past_stretch (document l.galley l.style) l.top (view l.fn.before) (items_ahead l.galley.blocks l.fn.start);
  reach : max l.greatest (reach_along (document l.galley l.style) l.top (front_ahead l.galley.blocks l.at)
      (view l.passed) (items_ahead l.galley.blocks l.at))
      ≡ reach_along (document l.galley l.style) l.top (front_ahead l.galley.blocks l.fn.start) (view l.fn.before)
      (items_ahead l.galley.blocks l.fn.start);
}

abbrev pub decreases-ahead : goal.decreases-ahead
decreases-ahead l = length (items_ahead l.galley.blocks l.at)
