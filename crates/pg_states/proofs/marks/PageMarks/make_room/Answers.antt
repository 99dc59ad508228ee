use Rattle.pg_states.proofs.Told.{nothing_more}
use Rattle.pg_states.proofs.marks.PageMarks.make_room.Goals as goal

pub returns-then-len-ge-LINES-clause-kept : goal.returns-then-len-ge-LINES-clause-kept
returns-then-len-ge-LINES-clause-kept c = nothing_more _ _ c.clear.ensures.items
