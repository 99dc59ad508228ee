-- Tests of which one is enough, the first of them tried first.
use Rattle.std.proofs.Common.{◌≡◌, sym, ap, ◌∙◌, ℕ, ◌<◌, ◌≤◌, arith, Bool, true, false}
use Rattle.std.specs.Prelude.{◌||◌, nat_le}
use Rattle.std.proofs.lemmas.Bool.{le-leb, lt-leb}
use Rattle.pg_lemmas.proofs.Bools.{or_left}

-- the first passes
pub by_first : (a b t : Bool) → t ≡ a → t ≡ true → t ≡ (a || b)
by_first a b t e p = p ∙ sym (or_left a b (sym e ∙ p))

-- the first does not
pub by_second : (a b t : Bool) → t ≡ a → t ≡ false → b ≡ (a || b)
by_second a b t e p = ap (λ (x : Bool). x || b) (sym p ∙ e)

-- the same of numbers that were read
module _ (n p n' p' : ℕ) (c : Bool) (same : n ≡ n') (before : p ≡ p') where
  pub none_added : n ≤ p → nat_le n p ≡ (nat_le n' p' || c)
  none_added h = le-leb n p h ∙ sym (or_left (nat_le n' p') c (le-leb n' p' (omega (arith, h, same, before))))

  pub some_added : p < n → c ≡ (nat_le n' p' || c)
  some_added h = ap (λ (x : Bool). x || c) (sym (lt-leb n' p' (omega (arith, h, same, before))))
