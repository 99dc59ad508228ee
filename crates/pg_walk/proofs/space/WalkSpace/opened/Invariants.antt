use Rattle.std.proofs.Common.{◌≡◌, ◌+◌, ◌-◌, ◌≤◌, ◌++◌, length}
use Rattle.pg_rules.specs.Legal.{document}
use Rattle.law_walk.specs.Reached.{greatest_from}
use Rattle.law_walk.specs.Walk.{variants_at}
use Rattle.pg_walk.specs.Meaning.{greatest_behind, reach_by, state_of, steps_from}
use Rattle.pg_walk.proofs.space.WalkSpace.opened.Given as goal

abbrev pub invariant-picks : goal.invariant-picks
invariant-picks l = record {
  few : l.pick + length l.left ≤ 5;
  all : l.pick + length l.left ≡ length (variants_at l.self.galley.now.blocks l.state.block);
  steps : l.found ++ steps_from (document l.self.galley.now l.self.style.now) l.self.top l.state l.pick l.left
      ≡ steps_from (document l.self.galley.now l.self.style.now) l.self.top l.state 0
      (variants_at l.self.galley.now.blocks l.state.block);
  greatest : greatest_from (reach_by (document l.self.galley.now l.self.style.now) l.self.top (state_of l.state))
      l.greatest l.pick (length (variants_at l.self.galley.now.blocks l.state.block) - l.pick)
      ≡ greatest_behind (document l.self.galley.now l.self.style.now) l.self.top (state_of l.state);
}

abbrev pub decreases-picks : goal.decreases-picks
decreases-picks l = length l.left
