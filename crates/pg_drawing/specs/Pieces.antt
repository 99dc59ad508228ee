-- Lines, cut at those of one kind.
use Rattle.std.specs.Prelude.{ℕ, suc, ◌&&◌, Bool, not, if◌then◌else◌, List, [], ◌∷◌, map, is_some, codes}
use Rattle.std.specs.Borrow.{Bor}
use Rattle.pg_scan.specs.Parts.{after}
use Rattle.pg_drawing.specs.declared.pieces.Kind.{Kind}
use Rattle.pg_drawing.specs.declared.pieces.Kind.TheVariants.{Page, Column, Area, Item}

-- what stands behind references, one after another
abbrev pub texts : List (Bor (List ℕ)) → List (List ℕ)
texts lines = map (λ line. line.now) lines

-- this text stands in front
abbrev pub has_front : List ℕ → List ℕ → Bool
has_front front line = is_some (after front line)

-- the line is of this kind; an item begins with one point, and what belongs to it with more
abbrev pub begins : Kind → List ℕ → Bool
begins Page line = has_front (codes "page ") line
begins Column line = has_front (codes "column ") line
begins Area line = has_front (codes "area ") line
begins Item line = has_front (codes ".") line && not (has_front (codes "..") line)

-- a line, and the lines behind it up to the next of its kind
pub record Lines : Type 0 where
  pub head : List ℕ
  pub rest : List (List ℕ)

-- the lines before the first of a kind
abbrev pub until : (List ℕ → Bool) → List (List ℕ) → List (List ℕ)
until is_head [] = []
until is_head (line ∷ lines) = if is_head line then [] else line ∷ until is_head lines

-- for each line of a kind, it and those behind it up to the next one; what stands before the first is left out
abbrev pub cut : (List ℕ → Bool) → List (List ℕ) → List Lines
cut is_head [] = []
cut is_head (line ∷ lines) =
    if is_head line then record { head = line; rest = until is_head lines } ∷ cut is_head lines else cut is_head lines

-- how many lines stand before the first of a kind
abbrev pub inside_count : (List ℕ → Bool) → List (List ℕ) → ℕ
inside_count is_head [] = 0
inside_count is_head (line ∷ lines) = if is_head line then 0 else suc (inside_count is_head lines)

-- a line and those behind it
abbrev pub lines_of : List ℕ → List (List ℕ) → Lines
lines_of head rest = record { head = head; rest = rest }

-- these, behind references
abbrev pub told : List ℕ → List (Bor (List ℕ)) → Lines
told head rest = lines_of head (texts rest)
