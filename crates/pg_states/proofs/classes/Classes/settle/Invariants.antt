use Rattle.pg_states.specs.Settling.{AreSettled, line_by}
use Rattle.pg_states.proofs.Ahead.{AreAhead}
use Rattle.pg_states.proofs.classes.Classes.settle.Given as goal

abbrev pub invariant-loop-slot : goal.invariant-loop-slot
invariant-loop-slot l =
    AreSettled l.style (line_by l.self l.ages) l.self.placed.now l.self.after.now l.pages l.slot l.left l.price
    × AreAhead l.self.waits.now l.ages l.slot l.ahead
