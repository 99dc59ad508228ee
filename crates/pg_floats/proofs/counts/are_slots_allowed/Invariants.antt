use Rattle.std.proofs.Common.{◌≡◌, true}
use Rattle.std.specs.List.{list_all, range_with_len}
use Rattle.pg_floats.specs.Counts.{is_slot_allowed}
use Rattle.pg_floats.specs.Spots.{takes_of}
use Rattle.pg_floats.proofs.counts.are_slots_allowed.Given as goal

abbrev pub invariant-loop-slot : goal.invariant-loop-slot
invariant-loop-slot l = list_all (is_slot_allowed l.style (takes_of l.spot) l.counts) (range_with_len 0 l.slot) ≡ true
