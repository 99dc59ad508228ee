-- Tests of numbers, as facts.
use Rattle.std.proofs.Common.{◌≡◌, sym, subst, ℕ, Bool, true, false, arith}
use Rattle.std.specs.Prelude.{◌==◌, ℤ, ◌<ℤ◌, ◌≤ℤ◌, int_le, int_lt, T}
use Rattle.std.proofs.lemmas.Int.{ints}
use lib.Signed.{lt_z_yes}
use Rattle.std.proofs.lemmas.Bool.Decides.{nat_tests}

pub eq_true : (a b : ℕ) → (a == b) ≡ true → a ≡ b
eq_true a b h = grind (arith, nat_tests)
