use Rattle.std.proofs.Common.{Bool, subst, sym, refl}
use Rattle.pg_sources.specs.Document.{doc_of}
use Rattle.pg_rooms.specs.PlaceEnds.{AreFirst}
use Rattle.pg_rooms.proofs.Kept.{on_three, told_first, told_rooms}
use Rattle.std.proofs.lemmas.Result.{on_ok_weaker}
use Rattle.pg_rooms.proofs.place_ends.PlaceEnds.go_on.Goals as goal

pub returns-clause-right : goal.returns-clause-right
returns-clause-right c = on_three c.begin_rooms.result (λ none right calls from cs ds tells candidates apart called behind.
    let doc = doc_of c.args.sources.now in
    record {
      first = cs;
      later = ds;
      are_first = subst (λ (is_straight : Bool). AreFirst doc from cs is_straight c.args.first.near)
          (sym c.is_some-self.ensures) (told_first doc from cs c.args.first tells);
      candidates = candidates;
      apart = apart;
      rooms = told_rooms doc from cs c.args.first c.begin_rooms.new.rooms.items tells none
          (λ it. right cs it called);
      behind = behind;
      calls = calls called;
    }) c.begin_rooms.ensures.none c.begin_rooms.ensures.right c.begin_rooms.ensures.calls

pub returns-clause-reach : goal.returns-clause-reach
returns-clause-reach c = on_ok_weaker c.begin_rooms.result (λ h. refl) c.begin_rooms.ensures.calls

pub returns-clause-counts : goal.returns-clause-counts
returns-clause-counts c = on_ok_weaker c.begin_rooms.result (λ h. refl) c.begin_rooms.ensures.calls
