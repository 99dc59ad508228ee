use Rattle.std.proofs.Common.{◌≡◌, length}
use Rattle.std.specs.List.{AllByRecursion}
use Rattle.pg_list.specs.Shapes.{IsBlock}
use Rattle.pg_alone.specs.Notes.{high_blocks}
use Rattle.pg_alone.proofs.notes.high_among.Given as goal

abbrev pub invariant-each : goal.invariant-each
invariant-each l = (high_blocks l.style l.rest ≡ high_blocks l.style l.initial.rest) × AllByRecursion IsBlock l.rest

abbrev pub decreases-each : goal.decreases-each
decreases-each l = length l.rest
