use Rattle.std.proofs.Common.{◌≡◌, ◌++◌, length}
use Rattle.std.specs.List.{flat_map}
use Rattle.pg_lines.specs.Moves.{best_step, ends_at}
use Rattle.pg_lines.proofs.best.BestSpace.moves.Given as goal

abbrev pub invariant-ends : goal.invariant-ends
invariant-ends l = l.found ++ flat_map best_step l.rest ≡ flat_map best_step (ends_at l.self.lists.now l.place)

abbrev pub decreases-ends : goal.decreases-ends
decreases-ends l = length l.rest
