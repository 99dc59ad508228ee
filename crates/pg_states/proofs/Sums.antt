-- Sums of equal numbers, and of one number more.
use Rattle.std.proofs.Common.{◌≡◌, ap, ◌∙◌, ℕ, ◌+◌, ◌*◌, ◌^◌, ◌<◌, [], ◌∷◌, map, arith}
use Rattle.std.specs.List.{range_with_len}
use Rattle.std.proofs.lemmas.List.Sums.{sum_by-append, sum_by-cons}
use Rattle.pg_rules.specs.Floats.{total_count}
use Rattle.pg_floats.proofs.Ranges.{next_map}

-- one number of a range more
pub total_next : (f : ℕ → ℕ) (n count more : ℕ) → count ≡ total_count (map f (range_with_len 0 n)) → more ≡ f n →
    count + more ≡ total_count (map f (range_with_len 0 (n + 1)))
total_next f n count more e h =
    let one = sum_by-cons (λ (k : ℕ). k) (f n) [] in
    let both = ap total_count (next_map f n) ∙ sum_by-append (λ (k : ℕ). k) (map f (range_with_len 0 n)) (f n ∷ []) in
    omega (arith, e, h, one, both)

module _ (place placed rest place' placed' column' run' : ℕ) (p : place ≡ place') (q : placed ≡ placed')
    (r : rest ≡ 32 * placed + column' + run') where
  pub same_rank : 2 ^ 18 * place + rest ≡ 2 ^ 18 * place' + 32 * placed' + column' + run'
  same_rank = omega (arith, p, q, r)

  pub same_below : 2 ^ 18 * place' + 32 * placed' + column' + run' < 2 ^ 64 → 2 ^ 18 * place + rest < 2 ^ 64
  same_below h = omega (arith, p, q, r, h)
