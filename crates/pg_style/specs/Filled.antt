-- The places of a distance table.
use Rattle.std.specs.Prelude.{◌≡◌, ◌-◌, ℕ, List, ◌++◌, length, replicate, take}
use Rattle.pg_style.specs.Ranges.{IsDistance}
use Rattle.pg_style.specs.declared.distance.Distance.TheInside.{Inside}

-- nine places, which hold 0 behind the entries
abbrev pub filled : List ℕ → List ℕ
filled entries = entries ++ replicate (9 - length entries) 0

-- what the places of a distance table keep
pub record IsFilled (a : Inside) : Type 0 where
  pub is : IsDistance (take a.count a.entries)
  pub count : length (take a.count a.entries) ≡ a.count
  pub places : filled (take a.count a.entries) ≡ a.entries
