use Rattle.std.proofs.Common.{◌≤◌, length, false, ◌≡◌}
use Rattle.std.specs.List.{AllWithin}
use Rattle.pg_candidates.specs.Spots.{is_before}
use Rattle.pg_candidates.proofs.best.count_before.Given as goal

abbrev pub invariant-back : goal.invariant-back
invariant-back l = record {
  within : l.at ≤ length l.ends;
  behind : AllWithin (λ other. is_before other l.end ≡ false) l.ends l.at (length l.ends);
}

abbrev pub decreases-back : goal.decreases-back
decreases-back l = l.at
