-- Lines as they are read, and texts that begin alike.
use Rattle.std.specs.Prelude.{◌≡◌, ℕ, ◌==◌, true, false, List, [], ◌∷◌, ◌++◌, length, map, Option}
use Rattle.pg_scan.specs.Lines.{Line, is_full, joined, raw_lines}
use Rattle.law_readers.specs.InOrder.{InOrder}

-- the lines of a text, where one of full width is joined with what follows it
abbrev pub lines_read : Option ℕ → List ℕ → List (List ℕ)
lines_read wrap text = map (λ (line : Line). line.text) (joined wrap 1 (raw_lines text))

-- ---- a line in several parts

-- a line broken at a width: each part but the last is so long, and the last is not
abbrev pub IsBroken : ℕ → List (List ℕ) → List ℕ → Type 0
IsBroken width [] line = ⊥
IsBroken width (part ∷ []) line = ((length part == width) ≡ false) × (line ≡ part)
IsBroken width (part ∷ next ∷ parts) line =
    (rest : List ℕ) × ((length part == width) ≡ true) × (line ≡ part ++ rest) × IsBroken width (next ∷ parts) rest

-- the one text has the lines of the other, broken at a width
abbrev pub AreBroken : ℕ → List ℕ → List ℕ → Type 0
AreBroken width broken whole = InOrder (IsBroken width) (raw_lines broken) (raw_lines whole)

-- ---- texts that begin alike

-- the text begins with these lines
abbrev pub BeginsWith : List (List ℕ) → List ℕ → Type 0
BeginsWith front text = (rest : List (List ℕ)) × (raw_lines text ≡ front ++ rest)

-- the last of these lines is whole: it is not joined with what follows it
abbrev pub EndsWhole : Option ℕ → List (List ℕ) → Type 0
EndsWhole wrap [] = Unit {0}
EndsWhole wrap (line ∷ []) = is_full wrap line ≡ false
EndsWhole wrap (line ∷ next ∷ lines) = EndsWhole wrap (next ∷ lines)
