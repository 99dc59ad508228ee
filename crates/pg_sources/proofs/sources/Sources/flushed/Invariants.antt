use Rattle.std.proofs.Common.{◌≡◌, map, ℕ}
use Rattle.std.specs.List.{range_with_len}
use Rattle.pg_rules.specs.Floats.{entry, flushed}
use Rattle.pg_sources.proofs.sources.Sources.flushed.Given as goal

abbrev pub invariant-loop-slot : goal.invariant-loop-slot
invariant-loop-slot l = l.counts ≡ map (λ (slot : ℕ).
    entry (flushed l.self.galley.now.blocks l.self.style.now l.block) slot) (range_with_len 0 l.slot)
