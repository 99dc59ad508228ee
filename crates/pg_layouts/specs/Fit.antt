-- Counts that can be added.
use Rattle.std.specs.Prelude.{ℕ, ◌+◌, ◌<◌, List}
use Rattle.std.proofs.Props.{props}
use Rattle.pg_rules.specs.Floats.{entry}

-- each sum is a count of 16 bits
abbrev pub Fit : List ℕ → List ℕ → Type 0
Fit a b = (slot : ℕ) → entry a slot + entry b slot < 65536

-- that each is one has one proof at most
pub short_prop : (counts : List ℕ) → IsProp ((slot : ℕ) → entry counts slot < 65536)
short_prop counts = hlevel props
