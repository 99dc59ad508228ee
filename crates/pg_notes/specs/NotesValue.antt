-- What contracts see of the sums of notes.
use Rattle.std.specs.Prelude.{◌≡◌, ℕ, ◌+◌, ◌*◌, ◌≤◌, ◌^◌, Bool, false, nat_lt, if◌then◌else◌, List, ◌∷◌, length, Option, Some, None, ℤ, pos, ◌+ℤ◌, ◌-ℤ◌, unsigned_abs}
use Rattle.std.specs.List.{sum_by}
use Rattle.pg_style.specs.declared.style.Class.{Class}
use Rattle.pg_style.specs.declared.style.Gap.{Gap}
use Rattle.pg_style.specs.declared.style.Give.{Give}
use Rattle.pg_style.specs.declared.style.Kind.{Kind}
use Rattle.pg_style.specs.declared.style.Kind.TheVariants.{Note, Float}
use Rattle.pg_rules.specs.Floats.{gap_stretch, gap_shrink}
use Rattle.pg_notes.specs.declared.sums.NoteSum.{NoteSum}

pub record NotesValue : Type 0 where
  pub sums : List NoteSum
  pub count : ℕ

-- a sum for each class that a style may have, and no more than so many inserts can add
pub record IsWellKept (sums : List NoteSum) (count : ℕ) : Type 0 where
  pub places : length sums ≡ 8
  pub few : count ≤ 2 ^ 20
  pub bounded : sum_by (λ (sum : NoteSum). sum.size) sums ≤ 2 ^ 30 * count

-- what the notes of a class take
abbrev pub note_height : Kind → NoteSum → ℕ
note_height (Note skip limit) sum = if sum.is_there then unsigned_abs skip.size + sum.size else 0
note_height (Float area distance) sum = 0

abbrev pub is_over_limit : Kind → NoteSum → Bool
is_over_limit (Note skip limit) sum = nat_lt (unsigned_abs limit) sum.size
is_over_limit (Float area distance) sum = false

-- what the notes of all classes take, each class with its sum
abbrev pub heights : List Class → List NoteSum → ℕ
heights (class ∷ classes) (sum ∷ sums) = note_height class.kind sum + heights classes sums
heights _ _ = 0

-- what the skip of a class with a note gives
abbrev pub note_give : (Gap → ℤ) → Kind → NoteSum → ℤ
note_give part (Note skip limit) sum = if sum.is_there then part skip else pos 0
note_give part (Float area distance) sum = pos 0

-- what the skips of all classes with a note give
abbrev pub skips_by : (Gap → ℤ) → List Class → List NoteSum → ℤ
skips_by part (class ∷ classes) (sum ∷ sums) = note_give part class.kind sum +ℤ skips_by part classes sums
skips_by part _ _ = pos 0

-- by how much they may be stretched and shrunk
abbrev pub skips : List Class → List NoteSum → Give
skips classes sums = record { stretch = skips_by gap_stretch classes sums; shrink = skips_by gap_shrink classes sums }

-- what the notes of all classes take where their skips are shrunk
abbrev pub smallest_by : List Class → List NoteSum → ℤ
smallest_by classes sums = pos (heights classes sums) -ℤ skips_by gap_shrink classes sums

-- the number of the first class that is above its limit
abbrev pub first_over_limit : List Class → List NoteSum → Option ℕ
first_over_limit (class ∷ classes) (sum ∷ sums) =
    if is_over_limit class.kind sum then Some class.number else first_over_limit classes sums
first_over_limit _ _ = None
