-- Two tests, the second made only where the first is passed.
use Rattle.std.proofs.Common.{◌≡◌, sym, ap, ◌∙◌, ℕ, List, length, Bool, true, false}
use Rattle.std.specs.Prelude.{◌&&◌, ◌==◌}
use Rattle.std.proofs.lemmas.Bool.{eqb-true}
use Rattle.pg_lemmas.proofs.Bools.{by_bool}

module _ (a a' b : Bool) (e : a ≡ a') where
  pub passed : a ≡ true → (x : Bool) → x ≡ b → x ≡ (a' && b)
  passed h x f = f ∙ ap (λ (c : Bool). c && b) (sym h ∙ e)

  pub missed : a ≡ false → a ≡ (a' && b)
  missed h = h ∙ ap (λ (c : Bool). c && b) (sym h ∙ e)

-- as many elements
pub as_many : (xs ys : List ℕ) (m n : ℕ) → xs ≡ ys → m ≡ n → (length xs == m) ≡ (length ys == n)
as_many xs ys m n e f = ap (λ (zs : List ℕ). length zs == m) e ∙ ap (λ (k : ℕ). length ys == k) f

pub not_equal : (m n : ℕ) → (m ≡ n → ⊥) → (m == n) ≡ false
not_equal m n h = by_bool (m == n) (λ t. absurd (h (eqb-true m n t))) (λ f. f)
