use Rattle.std.proofs.Common.{◌≡◌, subst}
use Rattle.std.specs.Prelude.{IfOk}
use Rattle.pg_plan.specs.declared.states.State.{State}
use Rattle.pg_sources.specs.Document.{doc_of}
use Rattle.law_space.specs.PageSpace.{page_meaning}
use Rattle.law_space.specs.ReachAt.{reach_at}
use Rattle.pg_table.specs.Space.{AreMoves}
use Rattle.pg_space.proofs.space.PageSpaceSpace.expand.Goals as goal

pub returns-clause-moves : goal.returns-clause-moves
returns-clause-moves g c =
    subst (λ (u : State). IfOk c.open.result (λ it. AreMoves (page_meaning (doc_of c.args.self.now.sources)) u it.steps))
    c.in_ok-to_state.ensures c.open.ensures.moves

pub returns-clause-reach : goal.returns-clause-reach
returns-clause-reach g c =
    subst (λ (u : State). IfOk c.open.result (λ it. it.reach ≡ reach_at (doc_of c.args.self.now.sources) u.place))
    c.in_ok-to_state.ensures c.open.ensures.reach
