-- A sink over a writer.
use Rattle.std.specs.Prelude.{ℕ}

-- the writer, how many writes have failed, and how many came
pub record StreamState (W : Type 0) : Type 0 where
  pub inner : W
  pub faults : ℕ
  pub writes : ℕ
