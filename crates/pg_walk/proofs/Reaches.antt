-- One pick more.
use Rattle.std.proofs.Common.{◌≡◌, ap, ◌∙◌, ℕ, zero, suc, ◌+◌, ◌-◌, ◌<◌, ◌≤◌, arith}
use Rattle.std.specs.Prelude.{max}
use Rattle.law_walk.specs.Reached.{greatest_from}

-- a greater block to begin with
pub greatest_with : (f : ℕ → ℕ) (b m a n : ℕ) → greatest_from f (max b m) a n ≡ max m (greatest_from f b a n)
greatest_with f b m a zero = omega arith
greatest_with f b m a (suc n) =
    ap (λ (k : ℕ). max (f a) k) (greatest_with f b m (a + 1) n) ∙ turned (f a) m (greatest_from f b (a + 1) n)
  where
    turned : (x y z : ℕ) → max x (max y z) ≡ max y (max x z)
    turned x y z = omega arith

-- one pick more
pub pick_more : (f : ℕ → ℕ) (g a n x all : ℕ) → a < n → x ≡ f a → greatest_from f g a (n - a) ≡ all →
    greatest_from f (max g x) (a + 1) (n - (a + 1)) ≡ all
pick_more f g a n x all h is e =
    let left : suc (n - (a + 1)) ≡ n - a = omega (arith, h) in
    greatest_with f g x (a + 1) (n - (a + 1))
    ∙ (ap (λ (k : ℕ). max k (greatest_from f g (a + 1) (n - (a + 1)))) is
    ∙ (ap (greatest_from f g a) left ∙ e))

-- no pick is left
pub pick_none : (f : ℕ → ℕ) (g a n all : ℕ) → n ≤ a → greatest_from f g a (n - a) ≡ all → g ≡ all
pick_none f g a n all h e = let none : 0 ≡ n - a = omega (arith, h) in ap (greatest_from f g a) none ∙ e
