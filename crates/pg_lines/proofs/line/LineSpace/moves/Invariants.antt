use Rattle.std.proofs.Common.{◌≡◌, ◌++◌, length}
use Rattle.std.specs.List.{flat_map}
use Rattle.pg_lines.specs.Moves.{ends_at, line_step, low_by}
use Rattle.pg_lines.proofs.line.LineSpace.moves.Given as goal

abbrev pub invariant-ends : goal.invariant-ends
invariant-ends l = l.found
    ++ flat_map (line_step (low_by (length l.self.items.now) l.self.low.now) l.self.most l.state.lines) l.rest
    ≡ flat_map (line_step (low_by (length l.self.items.now) l.self.low.now) l.self.most l.state.lines)
    (ends_at l.self.lists.now l.state.index)

abbrev pub decreases-ends : goal.decreases-ends
decreases-ends l = length l.rest
