use Rattle.std.proofs.Common.{◌<◌, ℕ}
use Rattle.pg_alone.specs.Alone.{IsPlain}
use Rattle.pg_alone.proofs.alone.alone_in.Given as goal

abbrev pub invariant-loop-number : goal.invariant-loop-number
invariant-loop-number l = (n : ℕ) → n < l.number → IsPlain l.galley l.style l.slot n
