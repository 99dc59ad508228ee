use Rattle.std.proofs.Common.{◌∙◌, ap, sym, rules, of_z, to_z}
use Rattle.std.proofs.lemmas.Int.{to_z-of_z}
use Rattle.std.specs.Int.{w128}
use Rattle.pg_plan.specs.declared.states.State.{State}
use Rattle.pg_rules.specs.Floats.{total_count}
use Rattle.pg_moves.specs.Columns.{IsBehindIt, doc_at, move_at}
use Rattle.pg_moves.specs.Outdone.{AreSpared}
use Rattle.pg_moves.proofs.Built.{asked_is, placed_is, step, still_behind, still_spared}
use Rattle.pg_moves.proofs.Stepped.{not_stepped, not_wanted, stepped}
use Rattle.pg_moves.proofs.steps.add_end.Goals as goal
use Rattle.pg_moves.proofs.steps.add_end.Goals.{After-end_at}

-- up to the end it stays behind the column
behind : (g : _) (c : After-end_at g) → IsBehindIt c.args.column.now c.args.settled.now c.end_at.new.self
behind g c =
    let column = c.args.column.now in
    still_behind column.sources.now.style.now column.state.now column.laid.now c.args.settled.now
    c.args.behind.now c.end_at.new.self _ _ c.end_at.ensures c.requires.behind

-- and what is remembered stays of its line
spared : (g : _) (c : After-end_at g) → AreSpared (g.W.Wants.spares c.args.wants.now) c.end_at.new.self
spared g c = still_spared (g.W.Wants.spares c.args.wants.now) c.args.behind.now c.end_at.new.self _ _
    c.end_at.ensures c.requires.spared

pub cost_to-cost-requires : goal.cost_to-cost-requires
cost_to-cost-requires g c = c.requires.behind.small

pub rank-rank-requires : goal.rank-rank-requires
rank-rank-requires g c = placed_is (doc_at c.args.column.now) c.args.column.now.state.now c.args.column.now.laid.now
    c.requires.laid ∙ ap total_count (sym (ap (λ (v : State). v.placed)
    (behind g (goal.at.rank-rank-requires g c).After-end_at).state))

pub returns-then-ends_here-clause-added : goal.returns-then-ends_here-clause-added
returns-then-ends_here-clause-added g c =
    let column = c.args.column.now in
    λ goes. not_stepped (doc_at column) column.state.now
    column.laid.now c.requires.laid (g.W.Wants.spares c.args.wants.now) column.near.now.picks
    c.args.end.now c.args.settled.now c.args.steps.now (sym c.ends_here.ensures ∙ c.if-ends_here.true) goes

pub returns-then-not-wants-clause-spared : goal.returns-then-not-wants-clause-spared
returns-then-not-wants-clause-spared g c = spared g (goal.at.returns-then-not-wants-clause-spared g c).After-end_at

pub returns-then-not-wants-clause-behind : goal.returns-then-not-wants-clause-behind
returns-then-not-wants-clause-behind g c = behind g (goal.at.returns-then-not-wants-clause-behind g c).After-end_at

pub returns-then-not-wants-clause-added : goal.returns-then-not-wants-clause-added
returns-then-not-wants-clause-added g c =
    let column = c.args.column.now in
    λ goes. not_wanted (doc_at column) column.state.now
    column.laid.now c.requires.laid (g.W.Wants.spares c.args.wants.now) column.near.now.picks
    c.args.end.now c.args.settled.now
    (step (doc_at column) column.state.now column.laid.now c.requires.laid c.end_at.new.self.state
    (move_at column c.args.end.now)
    (to_z w128 (of_z w128 c.cost_to-cost.result)))
    (sym c.ends_here.ensures ∙ c.if-ends_here.false)
    (asked_is (doc_at column) column.state.now column.laid.now c.requires.laid
    column.near.now.picks c.args.end.now c.args.settled.now c.args.behind.now c.end_at.new.self _
    c.end_at.ensures c.requires.behind
    (to_z-of_z w128 c.cost_to-cost.result (record { sfits = search rules }) ∙ c.cost_to-cost.ensures))
    goes c.args.steps.now (c.wants.ensures c.if-not-wants.true)

pub returns-clause-spared : goal.returns-clause-spared
returns-clause-spared g c = spared g (goal.at.returns-clause-spared g c).After-end_at

pub returns-clause-behind : goal.returns-clause-behind
returns-clause-behind g c = behind g (goal.at.returns-clause-behind g c).After-end_at

pub returns-clause-added : goal.returns-clause-added
returns-clause-added g c =
    let column = c.args.column.now in
    λ goes. stepped (doc_at column) column.state.now
    column.laid.now c.requires.laid (g.W.Wants.spares c.args.wants.now) column.near.now.picks
    c.args.end.now c.args.settled.now
    (step (doc_at column) column.state.now column.laid.now c.requires.laid c.end_at.new.self.state
    (move_at column c.args.end.now)
    (to_z w128 (of_z w128 c.cost_to-cost.result)))
    (sym c.ends_here.ensures ∙ c.if-ends_here.false)
    (asked_is (doc_at column) column.state.now column.laid.now c.requires.laid
    column.near.now.picks c.args.end.now c.args.settled.now c.args.behind.now c.end_at.new.self _
    c.end_at.ensures c.requires.behind
    (to_z-of_z w128 c.cost_to-cost.result (record { sfits = search rules }) ∙ c.cost_to-cost.ensures))
    goes c.args.steps.now c.push_step.new.steps c.in_ok-push_step.ensures
