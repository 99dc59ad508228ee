use Rattle.std.proofs.Common.{◌<◌, ℕ}
use Rattle.pg_alone.specs.Alone.{IsPlain}
use Rattle.pg_alone.proofs.alone.first_alone.Given as goal

abbrev pub invariant-loop-slot : goal.invariant-loop-slot
invariant-loop-slot l = (i : ℕ) → i < l.slot → (number : ℕ) → IsPlain l.galley l.style i number
