use Rattle.std.proofs.Common.{◌≡◌, length, map}
use Rattle.pg_rules.specs.Reach.{greatest_extra}
use Rattle.pg_style.specs.declared.style.Run.{Run}
use Rattle.pg_walk.specs.Rooms.{greatest_room}
use Rattle.pg_walk.proofs.reach.greatest_extra.Given as goal

abbrev pub invariant-runs : goal.invariant-runs
invariant-runs l = greatest_room l.greatest (map (λ (run : Run). run.extra) l.left) ≡ greatest_extra l.runs

abbrev pub decreases-runs : goal.decreases-runs
decreases-runs l = length l.left
