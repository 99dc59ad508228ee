use Rattle.pg_table.proofs.BelowLemmas.{right_there}
use Rattle.pg_table.proofs.laws.right_below_for_agreeing.Goals as goal

pub returns : goal.returns
returns g c = λ t agree right. right_there _ _ _ (g.met.S.Space.lawful c.args.space.now)
    (g.met.R.Space.lawful c.args.other.now) t agree _ right
