use Rattle.std.proofs.Common.{◌≡◌, map, ℕ}
use Rattle.std.specs.List.{range_with_len}
use Rattle.pg_rules.specs.Floats.{called, entry}
use Rattle.pg_sources.proofs.sources.Sources.called.Given as goal

abbrev pub invariant-loop-slot : goal.invariant-loop-slot
invariant-loop-slot l = l.counts ≡ map (λ (slot : ℕ).
    entry (called l.self.galley.now.blocks l.self.style.now l.place) slot) (range_with_len 0 l.slot)
