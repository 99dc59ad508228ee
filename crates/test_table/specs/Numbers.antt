-- What the space of numbers means.
use Rattle.std.specs.Prelude.{◌≡◌, ℕ, ◌+◌, ◌≤◌, ◌<◌, ℤ, pos, ◌==◌, List, [], ◌∷◌, ◌++◌, nat_le, if◌then◌else◌}
use Rattle.std.specs.Ordering.{nat_cmp}
use Rattle.pg_table.specs.Space.{Meaning}
use Rattle.pg_table.specs.declared.step.Step.{Step}

-- adding m, which is 1 or 2, leads from u to v, which is not past the last number
pub record Adds (last u m v : ℕ) (c : ℤ) : Type 0 where
  pub some : 0 < m
  pub few : m ≤ 2
  pub sum : v ≡ u + m
  pub within : v ≤ last
  pub cost : c ≡ pos 1

-- the numbers from 0 to the last one, which alone is done; each is of its own key, rank and block
abbrev pub numbers : ℕ → Meaning ℕ ℕ ℕ
numbers last = record {
  start = 0;
  Own = λ u. u ≤ last;
  Follow = Adds last;
  key = λ u. u;
  rank = λ u. u;
  block = λ u. u;
  reach = λ u. u + 3;
  is_done = λ u. u == last;
  no_worse = λ u v. u == v;
  order = nat_cmp;
}

-- the steps with that by m from u behind them, if it leads to one of the numbers
abbrev pub with_step : ℕ → ℕ → ℕ → List (Step ℕ ℕ) → List (Step ℕ ℕ)
with_step last u m steps = if nat_le (u + m) last then steps ++ record {
  to = u + m;
  by = m;
  cost = pos 1;
} ∷ [] else steps
