use Rattle.pg_states.proofs.Told.{nothing}
use Rattle.pg_states.proofs.marks.PageMarksMarkingSmallState.none.Goals as goal

pub returns : goal.returns
returns c = nothing _ c.new-3.ensures.items
