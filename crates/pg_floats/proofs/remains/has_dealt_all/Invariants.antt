use Rattle.std.proofs.Common.{◌≡◌, true, ℕ}
use Rattle.std.specs.Prelude.{◌==◌}
use Rattle.std.specs.List.{list_all, range_with_len}
use Rattle.pg_list.specs.Flat.{end_of}
use Rattle.pg_rules.specs.Floats.{called, entry}
use Rattle.pg_floats.proofs.remains.has_dealt_all.Given as goal

abbrev pub invariant-loop-slot : goal.invariant-loop-slot
invariant-loop-slot l = list_all (λ (slot : ℕ). entry l.placed slot
    == entry (called l.galley.blocks l.style (end_of l.galley.blocks)) slot) (range_with_len 0 l.slot) ≡ true
