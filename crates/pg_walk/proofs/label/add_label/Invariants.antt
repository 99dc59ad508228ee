use Rattle.std.proofs.Common.{◌≡◌, ◌+◌, ◌≤◌, ◌++◌, length}
use Rattle.law_walk.specs.Walk.{variants_at}
use Rattle.pg_walk.specs.Meaning.{state_of}
use Rattle.pg_walk.specs.Collected.{ends_from}
use Rattle.pg_walk.specs.Contexts.{doc_of}
use Rattle.pg_walk.proofs.label.add_label.Given as goal

abbrev pub invariant-picks : goal.invariant-picks
invariant-picks l = record {
  few : l.pick + length l.left ≤ 5;
  ends : l.found ++ ends_from (doc_of l.context) l.context.top (state_of l.label.state) l.label.cost l.picks l.pick
      l.left
      ≡ l.initial.found ++ ends_from (doc_of l.context) l.context.top (state_of l.label.state) l.label.cost l.picks 0
      (variants_at l.context.galley.now.blocks l.label.state.block);
}

abbrev pub decreases-picks : goal.decreases-picks
decreases-picks l = length l.left
