-- The counts of classes, added up.
use Rattle.std.proofs.Common.{◌≡◌, ◌+◌, ℕ, List, ◌∷◌}
use Rattle.std.proofs.lemmas.List.Sums.{sum_by-cons}
use Rattle.pg_rules.specs.Floats.{total_count}

pub total_cons : (x : ℕ) (xs : List ℕ) → total_count (x ∷ xs) ≡ x + total_count xs
total_cons x xs = sum_by-cons (λ (n : ℕ). n) x xs
