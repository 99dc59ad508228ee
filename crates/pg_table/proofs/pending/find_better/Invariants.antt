use Rattle.std.proofs.Common.{◌-◌, length}
use Rattle.std.specs.List.{AllWithin}
use Rattle.pg_table.specs.Label.{NotBetterLabel}
use Rattle.pg_table.proofs.pending.find_better.Given as goal

abbrev pub invariant-held : goal.invariant-held
invariant-held g l = AllWithin (λ p. NotBetterLabel
    (g.S.Space.meaning l.space) l.entries p l.label) l.pending.items 0 l.i

abbrev pub decreases-held : goal.decreases-held
decreases-held g l = length l.pending.items - l.i
