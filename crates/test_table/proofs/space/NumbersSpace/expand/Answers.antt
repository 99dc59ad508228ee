use Rattle.test_table.proofs.Moves.{two_moves}
use Rattle.test_table.proofs.space.NumbersSpace.expand.Goals as goal

pub returns-clause-moves : goal.returns-clause-moves
returns-clause-moves g c =
    two_moves c.args.self.now.last c.args.state.now c.add_step.new.steps c.add_step-2.new.steps
    (rw c.new-found.ensures at c.in_ok-add_step.ensures) c.in_ok-add_step-2.ensures
