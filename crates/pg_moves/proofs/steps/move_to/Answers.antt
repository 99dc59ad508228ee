use Rattle.std.proofs.Common.{◌≡◌, subst, List, ℕ, IfOk}
use Rattle.pg_layouts.specs.Layouts.{move_of}
use Rattle.pg_moves.proofs.steps.move_to.Goals as goal

pub returns : goal.returns
returns c =
    let column = c.args.column.now in
    subst (λ (picks : List ℕ). IfOk c.of.result
    (λ it. it ≡ move_of column.state.now column.laid.now.layout c.args.end.now.to picks))
    c.picks_to.ensures c.of.ensures
