use Rattle.std.proofs.Common.{◌≡◌, length}
use Rattle.pg_plan.specs.Backwards.{moves_left}
use Rattle.pg_plan.proofs.backwards.split_last.Given as goal

abbrev pub invariant-pages : goal.invariant-pages
invariant-pages l = moves_left l.front ≡ moves_left l.left

abbrev pub decreases-pages : goal.decreases-pages
decreases-pages l = length l.left.pages.now
