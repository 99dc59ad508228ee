use Rattle.std.proofs.Common.{◌≡◌, true}
use Rattle.std.specs.List.{list_all, range_with_len}
use Rattle.pg_judge.specs.Bases.{doc_of}
use Rattle.pg_judge.specs.Waits.{is_slot_called}
use Rattle.pg_judge.proofs.floats.are_called.Given as goal

abbrev pub invariant-loop-slot : goal.invariant-loop-slot
invariant-loop-slot l = list_all (is_slot_called (doc_of l.basis) l.to l.placed l.after)
    (range_with_len 0 l.slot) ≡ true
