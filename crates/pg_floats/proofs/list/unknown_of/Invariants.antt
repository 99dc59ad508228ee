use Rattle.std.proofs.Common.{◌≡◌, length}
use Rattle.std.specs.List.{AllByRecursion}
use Rattle.pg_list.specs.Shapes.{IsBlock}
use Rattle.pg_floats.specs.Callouts.{unknown_blocks}
use Rattle.pg_floats.proofs.list.unknown_of.Given as goal

abbrev pub invariant-each : goal.invariant-each
invariant-each l =
    (unknown_blocks l.style.classes l.rest ≡ unknown_blocks l.style.classes l.initial.rest)
    × AllByRecursion IsBlock l.rest

abbrev pub decreases-each : goal.decreases-each
decreases-each l = length l.rest
