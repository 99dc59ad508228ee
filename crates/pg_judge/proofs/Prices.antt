-- The prices of floats together.
use Rattle.std.proofs.Common.{◌≡◌, refl, sym, ap, ◌∙◌, subst, ℕ, zero, suc, ◌+◌, ◌<◌, arith, Option, Some, None, ◌⊎◌, inl, inr}
use Rattle.pg_judge.specs.Waits.{both_prices, prices_below}

pub next_price : (price : ℕ → Option ℕ) (n sum one : ℕ) → Some sum ≡ prices_below price n → Some one ≡ price n →
    Some (sum + one) ≡ prices_below price (n + 1)
next_price price n sum one s o =
    let m : n + 1 ≡ suc n = omega arith in
    ap (λ (p : Option ℕ). both_prices p (Some one)) s ∙ (ap (both_prices (prices_below price n)) o
    ∙ sym (ap (prices_below price) m))

none_behind : (a b : Option ℕ) → b ≡ None → both_prices a b ≡ None
none_behind None b e = refl
none_behind (Some a) None e = refl
none_behind (Some a) (Some b) e = absurd cc

pub no_price : (price : ℕ → Option ℕ) (n i : ℕ) → i < n → price i ≡ None → prices_below price n ≡ None
no_price price zero i h e = absurd (omega (arith, h))
no_price price (suc n) i h e = elim (last n i h) [
  | inl same ↦ none_behind (prices_below price n) (price n) (subst (λ (k : ℕ). price k ≡ None) same e)
  | inr less ↦ ap (λ (p : Option ℕ). both_prices p (price n)) (no_price price n i less e)
]
  where
    last : (n i : ℕ) → i < suc n → (i ≡ n) ⊎ (i < n)
    last zero zero h = inl refl
    last zero (suc i) h = absurd (omega (arith, h))
    last (suc n) zero h = inr (omega arith)
    last (suc n) (suc i) h = elim (last n i (omega (arith, h))) [
      | inl e ↦ inl (ap suc e)
      | inr l ↦ inr (omega (arith, l))
    ]
