use Rattle.std.proofs.Common.{refl, sym, subst, arith, ◌≡◌, ◌+◌, [], ◌∷◌, ◌++◌, length, List}
use Rattle.pg_rules.specs.Legal.{document}
use Rattle.pg_candidates.specs.Alone.{AreNearAlone, IsNearAlone}
use Rattle.pg_candidates.specs.Nears.{NearValue}
use Rattle.pg_candidates.specs.View.{end_of}
use Rattle.pg_candidates.proofs.Alone.{alone_next}
use Rattle.pg_candidates.proofs.Short.{goal_small}
use Rattle.pg_candidates.proofs.all_rooms.AllRoomsTakesEnds.take.Goals as goal

pub first_with-first-requires-clause-goal : goal.first_with-first-requires-clause-goal
first_with-first-requires-clause-goal c =
    goal_small c.args.style.now c.args.self.now.most.stretch c.args.end.now.passed.now.sums.totals c.args.needs.now.give
    c.goal_for-goal.result c.goal_for-goal.ensures

pub returns : goal.returns
returns c = record {
  galley = refl;
  most = refl;
  taken = λ cs are.
      let doc = document c.args.self.now.galley.now c.args.style.now in
      let most = c.args.self.now.most.stretch in
      let nears = c.args.self.now.nears.items in
      let it = end_of c.args.end.now in
      let near = c.near_first.result in
      let at : near.at ≡ 0 + length nears = omega (arith, c.near_first.ensures.at, c.first_with-first.ensures.at, c.len-at.ensures) in
      let worst = c.first_with-first.ensures.worst c.args.style.now most c.requires.needs c.goal_for-goal.ensures in
      let own : IsNearAlone doc most (0 + length nears) it near = record {
        at = at;
        near = c.near_first.ensures.near c.args.self.now.galley.now c.first_with-first.ensures.kind;
        until = c.near_first.ensures.until c.args.self.now.galley.now c.first_with-first.ensures.kind worst;
      } in
      subst (AreNearAlone doc most 0 (cs ++ it ∷ [])) (sym {A = List NearValue} c.in_ok-push.ensures.items)
      (alone_next doc most 0 cs nears it near are own);
}
