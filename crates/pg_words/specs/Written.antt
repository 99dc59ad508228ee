-- How numbers, counts and places are written.
use Rattle.std.specs.Prelude.{ℕ, suc, List, [], ◌∷◌, ◌++◌, decimal, codes, Option, Some, None, ℤ, pos, negsuc}
use Rattle.std.specs.List.{flat_map}
use Rattle.pg_list.specs.declared.galley.Place.{Place}
use Rattle.pg_plan.specs.declared.states.Side.{Side}
use Rattle.pg_plan.specs.declared.states.Side.TheVariants.{L, R, S}

-- a text with the line feed that ends it
abbrev pub line : List ℕ → List ℕ
line text = text ++ 10 ∷ []

-- in decimals, with a minus in front of a negative one
abbrev pub whole_text : ℤ → List ℕ
whole_text (pos n) = decimal n
whole_text (negsuc n) = 45 ∷ decimal (suc n)

-- each entry behind a comma
abbrev pub further_text : List ℕ → List ℕ
further_text counts = flat_map (λ (count : ℕ). 44 ∷ decimal count) counts

-- the entries joined by commas, and `-` where there is none
abbrev pub counts_text : List ℕ → List ℕ
counts_text [] = codes "-"
counts_text (n ∷ counts) = decimal n ++ further_text counts

-- block, variant and index
abbrev pub place_text : Place → List ℕ
place_text at = decimal at.block ++ (32 ∷ decimal at.variant) ++ (32 ∷ decimal at.index)

-- its letter
abbrev pub side_text : Side → List ℕ
side_text L = codes "L"
side_text R = codes "R"
side_text S = codes "S"

-- `-` where there is none
abbrev pub option_text : {X : Type 0} → (X → List ℕ) → Option X → List ℕ
option_text text None = codes "-"
option_text text (Some x) = text x
