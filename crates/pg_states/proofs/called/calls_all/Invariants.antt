use Rattle.std.proofs.Common.{◌≡◌, true}
use Rattle.std.specs.List.{list_all, range_with_len}
use Rattle.pg_sources.specs.Document.{doc_of}
use Rattle.pg_states.specs.Called.{is_slot_called}
use Rattle.pg_states.proofs.called.calls_all.Given as goal

abbrev pub invariant-loop-slot : goal.invariant-loop-slot
invariant-loop-slot l = list_all (is_slot_called (doc_of l.sources) l.to l.counts) (range_with_len 0 l.slot) ≡ true
