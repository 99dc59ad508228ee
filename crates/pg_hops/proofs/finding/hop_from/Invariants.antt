use Rattle.std.proofs.Common.{◌-◌}
use Rattle.pg_hops.proofs.OneMore.{IsBegun}
use Rattle.pg_hops.proofs.finding.hop_from.Given as goal

abbrev pub invariant-ahead : goal.invariant-ahead
invariant-ahead l = record {
  begun : IsBegun l.galley.blocks l.style.maxdepth l.fn.from (record { to = l.at; added = l.added });
}

abbrev pub decreases-ahead : goal.decreases-ahead
decreases-ahead l = 64 - l.added.count
