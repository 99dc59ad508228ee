use Rattle.std.proofs.Common.{◌-◌, ◌≤◌, ◌^◌}
use Rattle.std.specs.Prelude.{IfSome, nat_abs}
use Rattle.pg_hops.proofs.LeapOne.{IsLeapBegun}
use Rattle.pg_hops.proofs.finding.leap_from.Given as goal

abbrev pub invariant-ahead : goal.invariant-ahead
invariant-ahead l = record {
  begun : IsLeapBegun l.galley.blocks l.style.maxdepth l.fn.from
      (record { way = record { to = l.at; added = l.added }; highest = l.highest });
  size : IfSome l.highest (λ most. nat_abs most ≤ 2 ^ 56);
}

abbrev pub decreases-ahead : goal.decreases-ahead
decreases-ahead l = 256 - l.added.count
