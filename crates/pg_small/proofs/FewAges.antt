-- Ages in few bytes that are no greater than others.
use Rattle.std.proofs.Common.{◌≡◌, sym, ap, ◌∙◌, ℕ, ◌<◌, ◌≤◌, List, length, take, arith}
use Rattle.std.specs.Prelude.{get_or, min}
use Rattle.std.proofs.lemmas.List.{get_or-take, length-take}

module _ (m n : ℕ) (xs ys us vs : List ℕ) (e : m ≡ n) (own : us ≡ take m xs) (its : vs ≡ take n ys)
    (six : (length xs ≡ 6) × (length ys ≡ 6)) where
  pub same_length : length us ≡ length vs
  same_length =
      let k : length us ≡ min m (length xs) = ap length own ∙ length-take m xs in
      let l : length vs ≡ min n (length ys) = ap length its ∙ length-take n ys in
      k ∙ (ap (λ (i : ℕ). min i (length xs)) e ∙ (ap (min n) (six.0 ∙ sym six.1) ∙ sym l))

  pub no_greater : ((i : ℕ) → i < 6 → get_or xs i 0 ≤ get_or ys i 0) → (i : ℕ) → i < length us →
      get_or us i 0 ≤ get_or vs i 0
  no_greater each i less =
      let l : length us ≡ min m (length xs) = ap length own ∙ length-take m xs in
      let inside : i < m = omega (arith, l, less) in
      let within : i < 6 = omega (arith, l, less, six.0) in
      let a : get_or us i 0 ≡ get_or xs i 0 = ap (λ (zs : List ℕ). get_or zs i 0) own ∙ get_or-take m xs i 0 inside in
      let b : get_or vs i 0 ≡ get_or ys i 0 =
      ap (λ (zs : List ℕ). get_or zs i 0) its ∙ get_or-take n ys i 0 (omega (arith, inside, e)) in
      let c : get_or xs i 0 ≤ get_or ys i 0 = each i within in
      omega (arith, a, b, c)
