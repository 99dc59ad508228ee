use Rattle.law_moves.proofs.Contracts.{states_tested}
use Rattle.law_moves.proofs.laws.states_are_tested.Goals as goal

pub returns : goal.returns
returns c = states_tested c.args.galley.now c.args.style.now
