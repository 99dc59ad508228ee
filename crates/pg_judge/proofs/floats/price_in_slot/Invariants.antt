use Rattle.std.proofs.Common.{◌≡◌, ◌+◌, ◌*◌, ◌^◌, ◌≤◌, ℕ, Some}
use Rattle.std.specs.Prelude.{reverse}
use Rattle.pg_rules.specs.Floats.{entry}
use Rattle.pg_judge.specs.Bases.{doc_of}
use Rattle.pg_judge.specs.Waits.{price_of, prices_below}
use Rattle.pg_judge.proofs.floats.price_in_slot.Given as goal

abbrev pub invariant-loop-number : goal.invariant-loop-number
invariant-loop-number l = record {
  price : Some l.sum ≡ prices_below (λ (n : ℕ). price_of (doc_of l.basis) (reverse l.turns)
      (l.slot, entry l.placed l.slot + n)) l.number;
  few : l.sum ≤ 2 ^ 32 * l.number;
}
