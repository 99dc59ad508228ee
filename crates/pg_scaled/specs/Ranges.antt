-- The range of a scaled number.
use Rattle.std.specs.Prelude.{◌<◌, ◌^◌, ℤ, nat_abs}

-- below 2^30 units, that is 16384 points, in size
abbrev pub IsScaled : ℤ → Type 0
IsScaled z = nat_abs z < 2 ^ 30
