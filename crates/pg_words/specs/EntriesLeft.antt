-- The entries that are left of a list.
use Rattle.std.specs.Prelude.{ℕ, ◌+◌, List, [], length, Option, Some, None}
use Rattle.pg_scan.specs.Parts.{parts_of}

-- the parts of what is left between commas; none where nothing is left
abbrev pub entries_left : Option (List ℕ) → List (List ℕ)
entries_left None = []
entries_left (Some text) = parts_of 44 text

-- how much is left
abbrev pub size_left : Option (List ℕ) → ℕ
size_left None = 0
size_left (Some text) = length text + 1
