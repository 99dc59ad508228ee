use Rattle.pg_states.proofs.Told.{any_set}
use Rattle.pg_states.proofs.marks.put_cell.Goals as goal

pub returns-then-spot-len : goal.returns-then-spot-len
returns-then-spot-len c = λ test h. any_set test c.args.cells.now.items c.args.spot c.args.cell h
