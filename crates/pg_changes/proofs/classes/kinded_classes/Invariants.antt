use Rattle.std.proofs.Common.{◌≡◌, ◌≤◌, ◌-◌, length, take}
use Rattle.pg_style.specs.Ranges.{AreClasses}
use Rattle.pg_changes.specs.Numbers.{kinded_at}
use Rattle.pg_changes.proofs.classes.kinded_classes.Given as goal

abbrev pub invariant-classes : goal.invariant-classes
invariant-classes l = (l.at ≤ length l.all) × (l.made ≡ take l.at (kinded_at l.all l.index l.kind)) × AreClasses l.all

abbrev pub decreases-classes : goal.decreases-classes
decreases-classes l = length l.all - l.at
