use Rattle.std.proofs.Common.{◌-◌}
use Rattle.pg_hops.proofs.index.first_hop.Given as goal

abbrev pub decreases-hops : goal.decreases-hops
decreases-hops l = 1048576 - l.index
