use Rattle.pg_greedy.proofs.OneFit.{is_one}
use Rattle.pg_greedy.proofs.laws.first_fit_is_one.Goals as goal

pub returns : goal.returns
returns c = is_one c.args.galley.now c.args.style.now
