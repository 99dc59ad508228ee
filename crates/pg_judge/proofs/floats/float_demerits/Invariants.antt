use Rattle.std.proofs.Common.{◌≡◌, ◌*◌, ◌^◌, ◌≤◌, Some}
use Rattle.std.specs.Prelude.{reverse}
use Rattle.pg_judge.specs.Bases.{doc_of}
use Rattle.pg_judge.specs.Waits.{prices_below, slot_price}
use Rattle.pg_judge.proofs.floats.float_demerits.Given as goal

abbrev pub invariant-loop-slot : goal.invariant-loop-slot
invariant-loop-slot l = record {
  price : Some l.sum ≡ prices_below (slot_price (doc_of l.basis) (reverse l.turns) l.placed l.after) l.slot;
  few : l.sum ≤ 2 ^ 48 * l.slot;
}
