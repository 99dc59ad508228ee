use Rattle.std.proofs.Common.{◌≡◌, ◌+◌, length, true}
use Rattle.pg_list.specs.Places.{place}
use Rattle.std.specs.Prelude.{max}
use Rattle.pg_rules.specs.Legal.{document}
use Rattle.pg_column.specs.Passed.{fits}
use Rattle.law_walk.specs.Reached.{reach_along}
use Rattle.law_walk.specs.Walk.{ends_along, past_stretch}
use Rattle.pg_hops.specs.Ahead.{IsSettled, front_ahead, items_ahead}
use Rattle.pg_hops.specs.Needs.{AreNoted}
use Rattle.pg_hops.specs.Quiet.{is_quiet, passed_along}
use Rattle.pg_hops.specs.View.{IsFor, view}
use Rattle.pg_candidates.proofs.Handed.{Taking}
use Rattle.pg_candidates.proofs.along.walk_on.Given as goal

abbrev pub invariant-ahead : goal.invariant-ahead
invariant-ahead g l = record {
  settled : IsSettled l.galley.blocks l.at;
  front : front_ahead l.galley.blocks l.at ≡ front_ahead l.galley.blocks l.start.at;
  style : IsFor l.style l.passed;
  bound : fits l.passed.bound l.top ≡ true;
  sums : l.passed.sums.count + length (items_ahead l.galley.blocks l.at)
      ≡ l.start.passed.sums.count + length (items_ahead l.galley.blocks l.start.at);
  notes : l.passed.notes.count + length (items_ahead l.galley.blocks l.at)
      ≡ l.start.passed.notes.count + length (items_ahead l.galley.blocks l.start.at);
  noted : AreNoted l.style l.passed.notes.sums l.noted;
  past : past_stretch (document l.galley l.style) l.top (view l.passed) (items_ahead l.galley.blocks l.at)
      ≡ past_stretch (document l.galley l.style) l.top (view l.start.passed) (items_ahead l.galley.blocks l.start.at);
  ends : Taking (g.T.TakesEnds.Took l.style) l.initial.found l.found
      (ends_along (document l.galley l.style) l.top l.start.picks.now l.start.demerits
      (place (front_ahead l.galley.blocks l.at) 0 0) (view l.passed) (items_ahead l.galley.blocks l.at))
      (ends_along (document l.galley l.style) l.top l.start.picks.now l.start.demerits
      (place (front_ahead l.galley.blocks l.start.at) 0 0) (view l.start.passed) (items_ahead l.galley.blocks l.start.at));
  reach : max l.greatest (reach_along (document l.galley l.style) l.top (front_ahead l.galley.blocks l.at)
      (view l.passed) (items_ahead l.galley.blocks l.at))
      ≡ reach_along (document l.galley l.style) l.top (front_ahead l.galley.blocks l.start.at) (view l.start.passed)
      (items_ahead l.galley.blocks l.start.at);
  quiet : is_quiet l.style (passed_along (document l.galley l.style) l.top (view l.passed)
      (items_ahead l.galley.blocks l.at))
      ≡ is_quiet l.style (passed_along (document l.galley l.style) l.top (view l.start.passed)
      (items_ahead l.galley.blocks l.start.at));
}

abbrev pub decreases-ahead : goal.decreases-ahead
decreases-ahead g l = length (items_ahead l.galley.blocks l.at)
