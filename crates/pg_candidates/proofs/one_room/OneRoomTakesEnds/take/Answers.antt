use Rattle.std.proofs.Common.{◌≡◌, ◌∙◌, refl, sym, subst, arith, [], ◌∷◌, ◌++◌, ◌<ℤ◌, false}
use Rattle.std.specs.Prelude.{int_lt}
use Rattle.std.proofs.lemmas.Int.{ints}
use Rattle.std.proofs.lemmas.Result.{on_ok_weaker}
use Rattle.pg_column.specs.Numbers.{most_room}
use Rattle.pg_hops.specs.View.{view}
use Rattle.pg_rules.specs.Legal.{document}
use Rattle.law_walk.specs.Best.{AreBest}
use Rattle.law_walk.specs.Candidates.{Candidate, text_ends}
use Rattle.pg_candidates.specs.RoomEnds.{ends_of}
use Rattle.pg_candidates.specs.View.{plain_to}
use Rattle.pg_candidates.proofs.Plain.{plain_is, plain_near, plain_value}
use Rattle.pg_candidates.proofs.Nears.{best_kept, best_refused}
use Rattle.pg_candidates.proofs.TooLow.{best_too_low, needs_least}
use Rattle.pg_candidates.proofs.one_room.OneRoomTakesEnds.take.Goals as goal

pub returns-then-is_too_low : goal.returns-then-is_too_low
returns-then-is_too_low c = record {
  galley = refl;
  room = refl;
  best = λ plain cs best.
      let doc = document c.args.self.now.galley.now c.args.style.now in
      let room = c.args.self.now.room in
      let ends = ends_of [] c.args.self.now.ends.items in
      let low : most_room room <ℤ c.args.needs.now.bound =
      grind (arith, ints, c.is_too_low.ensures, c.if-is_too_low.true) in
      subst (λ (x : Candidate). AreBest (text_ends doc room (cs ++ x ∷ [])) ends) (sym (plain_is _ plain.0))
      (best_too_low doc room cs (plain_to c.args.end.now.to (view c.args.end.now.passed.now)) c.args.needs.now.bound ends low
      (needs_least doc (plain_to c.args.end.now.to (view c.args.end.now.passed.now)) c.args.needs.now c.requires.needs) best);
}

pub returns-then-not-is_tolerable : goal.returns-then-not-is_tolerable
returns-then-not-is_tolerable c = record {
  galley = refl;
  room = refl;
  best = λ plain cs best.
      let doc = document c.args.self.now.galley.now c.args.style.now in
      let room = c.args.self.now.room in
      let it = plain_to c.args.end.now.to (view c.args.end.now.passed.now) in
      let near = plain_value doc it c.kind_at-kind.result c.args.needs.now.bound in
      let is = plain_near doc room.give.stretch it c.kind_at-kind.result c.args.needs.now.bound c.kind_at-kind.ensures
      (needs_least doc (plain_to c.args.end.now.to (view c.args.end.now.passed.now)) c.args.needs.now c.requires.needs) in
      let high : int_lt (most_room room) c.args.needs.now.bound ≡ false =
      grind (arith, ints, c.is_too_low.ensures, c.if-is_too_low.false) in
      subst (λ (x : Candidate). AreBest (text_ends doc room (cs ++ x ∷ [])) (ends_of [] c.args.self.now.ends.items))
      (sym (plain_is _ plain.0))
      (best_refused doc room.give.stretch room it near is c.cost_in-cost.result c.cost_in-cost.ensures cs [] refl
      (ends_of [] c.args.self.now.ends.items) best high
      (sym c.is_tolerable.ensures ∙ c.if-not-is_tolerable.true));
}

pub returns : goal.returns
returns c = on_ok_weaker c.keep_best.result (λ added. record {
  galley = refl;
  room = refl;
  best = λ plain cs best.
      let doc = document c.args.self.now.galley.now c.args.style.now in
      let room = c.args.self.now.room in
      let it = plain_to c.args.end.now.to (view c.args.end.now.passed.now) in
      let near = plain_value doc it c.kind_at-kind.result c.args.needs.now.bound in
      let is = plain_near doc room.give.stretch it c.kind_at-kind.result c.args.needs.now.bound c.kind_at-kind.ensures
      (needs_least doc (plain_to c.args.end.now.to (view c.args.end.now.passed.now)) c.args.needs.now c.requires.needs) in
      let high : int_lt (most_room room) c.args.needs.now.bound ≡ false =
      grind (arith, ints, c.is_too_low.ensures, c.if-is_too_low.false) in
      subst (λ (x : Candidate). AreBest (text_ends doc room (cs ++ x ∷ [])) (ends_of [] c.keep_best.new.ends.items))
      (sym (plain_is _ plain.0))
      (best_kept doc room.give.stretch room it near is c.cost_in-cost.result c.cost_in-cost.ensures cs [] refl
      (ends_of [] c.args.self.now.ends.items) best high
      (sym c.is_tolerable.ensures ∙ c.if-not-is_tolerable.false) (ends_of [] c.keep_best.new.ends.items)
      (added best.ascend));
}) c.keep_best.ensures
