use Rattle.std.proofs.Common.{◌≡◌, map, take}
use Rattle.pg_candidates.specs.Groups.{indices_in}
use Rattle.pg_candidates.specs.declared.order.Ranked.{Ranked}
use Rattle.pg_candidates.proofs.order.joined.Given as goal

abbrev pub invariant-each : goal.invariant-each
invariant-each l = record {
  all : map (λ (it : Ranked). it.at) l.order.items ≡ indices_in (take l.group-index l.groups);
}
