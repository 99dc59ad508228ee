use Rattle.std.proofs.Common.{◌≡◌, true}
use Rattle.std.specs.List.{list_all, range_with_len}
use Rattle.pg_states.specs.Lines.{covers_one}
use Rattle.pg_states.proofs.counts.covers_either.Given as goal

abbrev pub invariant-loop-slot : goal.invariant-loop-slot
invariant-loop-slot l = list_all (covers_one l.a l.b l.c) (range_with_len 0 l.slot) ≡ true
