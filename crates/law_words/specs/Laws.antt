-- What is written says what was written, in the words of the contracts.
use Rattle.std.specs.Prelude.{◌≡◌, ◌<◌, ◌≤◌, ◌^◌, ℕ, true, List, ◌∷◌, decimal, Some, ℤ, nat_abs}
use Rattle.pg_list.specs.declared.galley.Place.{Place}
use Rattle.pg_plan.specs.declared.states.Side.{Side}
use Rattle.pg_scaled.specs.Scaled.{scaled_text}
use Rattle.pg_words.specs.InOrder.{place_at}
use Rattle.pg_words.specs.Read.{number_below, numbers_word, scaled_word, side_word, whole_word}
use Rattle.pg_words.specs.Written.{counts_text, side_text, whole_text}
use Rattle.law_words.specs.Ranges.{AllBelow, IsPrintedPlace, is_wide}

-- a number below a bound
abbrev pub NumbersReadBack : Type 0
NumbersReadBack = (bound n : ℕ) → n < bound → bound ≤ 2 ^ 64 → number_below bound (decimal n) ≡ Some n

-- a whole number of 128 bits
abbrev pub WholesReadBack : Type 0
WholesReadBack = (z : ℤ) → is_wide z ≡ true → whole_word (whole_text z) ≡ Some z

-- a scaled number of a size of at most 2^60
abbrev pub LengthsReadBack : Type 0
LengthsReadBack = (z : ℤ) → nat_abs z ≤ 2 ^ 60 → scaled_word (scaled_text z) ≡ Some z

-- numbers below a bound, joined by commas, or none
abbrev pub CountsReadBack : Type 0
CountsReadBack = (bound : ℕ) (ns : List ℕ) → bound ≤ 2 ^ 64 → AllBelow bound ns →
    numbers_word bound (counts_text ns) ≡ Some ns

-- a side
abbrev pub SidesReadBack : Type 0
SidesReadBack = (side : Side) → side_word (side_text side) ≡ Some side

-- the three words of a place
abbrev pub PlacesReadBack : Type 0
PlacesReadBack = (at : Place) (words : List (List ℕ)) → IsPrintedPlace at →
    place_at (decimal at.block ∷ decimal at.variant ∷ decimal at.index ∷ words) ≡ Some (at, words)
