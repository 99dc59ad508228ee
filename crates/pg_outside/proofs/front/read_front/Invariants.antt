use Rattle.std.proofs.Common.{◌≤◌, ◌+◌, ◌-◌, length}
use Rattle.std.specs.Io.KnownBytes.{Consumes}
use Rattle.pg_outside.proofs.front.read_front.Given as goal

abbrev pub invariant-turns : goal.invariant-turns
invariant-turns g l = record {
  bounded : length l.into.items ≤ l.cap + 1;
  taken : Consumes (g.F.Read.remaining l.initial.file) (g.F.Read.remaining l.file) l.into.items;
}

abbrev pub decreases-turns : goal.decreases-turns
decreases-turns g l = l.cap + 1 - length l.into.items
