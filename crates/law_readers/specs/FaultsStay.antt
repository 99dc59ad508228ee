-- What the fault of a text says of other texts that begin alike.
use Rattle.std.specs.Prelude.{◌≡◌, ◌<◌, ℕ, List, length, take, Err}
use Rattle.pg_scan.specs.Parts.{parts_of}
use Rattle.pg_labels.specs.Reading.{output_of}

-- both texts have so many whole lines, and those are the same
pub record BeginAlike (lines : ℕ) (one other : List ℕ) : Type 0 where
  pub has_lines : lines < length (parts_of 10 one)
  pub other_has : lines < length (parts_of 10 other)
  pub same : take lines (parts_of 10 one) ≡ take lines (parts_of 10 other)

-- a fault at a whole line is a fault of every text that begins with the lines up to it
abbrev pub OutputFaultsStay : Type 0
OutputFaultsStay = (one other : List ℕ) (line : ℕ) → output_of one ≡ Err line → BeginAlike line one other →
    output_of other ≡ Err line
