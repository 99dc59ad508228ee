-- Numbers and their tests.
use Rattle.std.proofs.Common.{◌≡◌, ◌≤◌, ◌<◌, ◌+◌, ℕ, suc, arith, subst, true, false, Bool, ◌*◌}
use Rattle.std.specs.Prelude.{◌==◌, nat_lt, if◌then◌else◌, ℤ, pos, ◌≤ℤ◌, unsigned_abs, nat_le}
use Rattle.std.proofs.lemmas.Int.{ints}
use Rattle.std.proofs.lemmas.Bool.Decides.{nat_tests}
use Rattle.std.proofs.Math.Nat.{mul-le-mul_left, mul-le-mul_right}

pub eq_refl : (a : ℕ) → (a == a) ≡ true
eq_refl a = grind (arith, nat_tests)

-- numbers that a test tells apart are not equal
pub eq_not : (a b : ℕ) → (a == b) ≡ false → a ≡ b → ⊥
eq_not a b f e = let t : (a == b) ≡ true = subst (λ (z : ℕ). (a == z) ≡ true) e (eq_refl a) in absurd cc

pub less_of : (a b : ℕ) → a < b → nat_lt a b ≡ true
less_of a b h = grind (arith, nat_tests)

-- a number behind another is not 0
pub suc_not : (j : ℕ) → (suc j == 0) ≡ false
suc_not j = grind (arith, nat_tests)

-- a number behind one that is not 0 is not 1
pub more_than_one : (n : ℕ) → 1 ≤ n → (n + 1 == 1) ≡ false
more_than_one n h = grind (arith, nat_tests)

-- a bound on either is one on the chosen one
pub few_if : (b : Bool) (x y n : ℕ) → x ≤ n → y ≤ n → (if b then x else y) ≤ n
few_if true x y n h k = h
few_if false x y n h k = k

-- a number that is not negative is its size
pub length_is : (z : ℤ) → pos 0 ≤ℤ z → z ≡ pos (unsigned_abs z)
length_is z h = omega (arith, ints)

pub less_true : (a b : ℕ) → nat_lt a b ≡ true → a < b
less_true a b h = grind (arith, nat_tests)

pub not_less : (a b : ℕ) → nat_lt a b ≡ false → b ≤ a
not_less a b h = grind (arith, nat_tests)

-- a lesser number is not equal
pub eq_no : (a b : ℕ) → a < b → (a == b) ≡ false
eq_no a b h = grind (arith, nat_tests)

pub eq_yes : (a b : ℕ) → a ≡ b → (a == b) ≡ true
eq_yes a b h = grind (arith, nat_tests)

-- squares grow with their numbers
pub square_few : (n k : ℕ) → n ≤ k → n * n ≤ k * k
square_few n k h = let a : n * n ≤ k * n = mul-le-mul_right n h in let b : k * n ≤ k * k =
    mul-le-mul_left k h in omega arith

pub le_true : (a b : ℕ) → nat_le a b ≡ true → a ≤ b
le_true a b h = grind (arith, nat_tests)

pub true_le : (a b : ℕ) → a ≤ b → nat_le a b ≡ true
true_le a b h = grind (arith, nat_tests)
