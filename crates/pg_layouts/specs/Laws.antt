-- What the lists of counts are.
use Rattle.std.specs.Prelude.{◌≢◌, ℕ, ◌≤◌, List, Contains, AllPairs}
use Rattle.pg_rules.specs.Floats.{total_count}
use Rattle.pg_layouts.specs.Counts.{Within}

-- the lists of counts are all within their limits and their sum, each once
pub record AreAllCounts (most : ℕ) (limits : List ℕ) (lists : List (List ℕ)) : Type 0 where
  pub sound : (counts : List ℕ) → Contains lists counts → Within limits counts × (total_count counts ≤ most)
  pub whole : (counts : List ℕ) → Within limits counts → total_count counts ≤ most → Contains lists counts
  pub once : AllPairs (λ a b. a ≢ b) lists
