use Rattle.std.proofs.Common.{◌∙◌, ◌++◌, ap, List}
use Rattle.std.specs.Prelude.{reverse}
use Rattle.pg_plan.specs.declared.pages.PageMove.{PageMove}
use Rattle.pg_space.specs.Runs.{moves_on}
use Rattle.pg_space.proofs.RunsBack.{moves_forth}
use Rattle.pg_space.proofs.runs.moves_of.Goals as goal

pub forth-preserved : goal.forth-preserved
forth-preserved c =
    ap (λ (ms : List PageMove). ms ++ reverse (moves_on c.args.labels.now c.pop.new.self.items))
    c.in_ok-push_move.ensures
    ∙ moves_forth c.args.labels.now c.forth.way.items c.pop.new.self.items c.in-Some.at c.forth.moves
    c.in-Some.ensures.items
    ∙ c.forth.invariant
