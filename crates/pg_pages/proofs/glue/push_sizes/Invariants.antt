use Rattle.std.proofs.Common.{◌≡◌, ◌++◌, length}
use Rattle.pg_pages.specs.SetGlue.{own_sizes}
use Rattle.pg_pages.proofs.glue.push_sizes.Given as goal

abbrev pub invariant-gaps : goal.invariant-gaps
invariant-gaps l = l.widths.items ++ own_sizes l.rest ≡ l.initial.widths.items ++ own_sizes l.gaps

abbrev pub decreases-gaps : goal.decreases-gaps
decreases-gaps l = length l.rest
