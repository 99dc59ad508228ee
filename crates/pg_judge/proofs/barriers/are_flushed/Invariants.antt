use Rattle.std.proofs.Common.{◌≡◌, true, ℕ, List}
use Rattle.std.specs.List.{list_all, range_with_len}
use Rattle.pg_floats.specs.Counts.{capped}
use Rattle.pg_judge.specs.Barriers.{has_flushed}
use Rattle.pg_judge.specs.Bases.{doc_of}
use Rattle.pg_judge.proofs.barriers.are_flushed.Given as goal

abbrev pub invariant-loop-slot : goal.invariant-loop-slot
invariant-loop-slot l = (counts : List ℕ) → l.placed ≡ capped counts →
    list_all (has_flushed (doc_of l.basis) l.block counts) (range_with_len 0 l.slot) ≡ true
