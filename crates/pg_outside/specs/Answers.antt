-- The answers of a fetch.
use Rattle.std.specs.Prelude.{◌≡◌, ⊤, Bool, true, false, Result, Err}
use Rattle.pg_outside.specs.declared.shelf.Fetch.{Fetch}
use Rattle.pg_outside.specs.declared.shelf.Fetch.TheVariants.{Failed, Missing, TooLong, Memory}

-- where the fetch failed
abbrev pub OnFailed : Result (Unit {0}) Fetch → Type 0 → Type 0
OnFailed (Err Failed) P = P
OnFailed answer P = ⊤

-- where there is no such file
abbrev pub OnMissing : Result (Unit {0}) Fetch → Type 0 → Type 0
OnMissing (Err Missing) P = P
OnMissing answer P = ⊤

-- where the file is too long
abbrev pub OnTooLong : Result (Unit {0}) Fetch → Type 0 → Type 0
OnTooLong (Err TooLong) P = P
OnTooLong answer P = ⊤

-- the answer is this one, or memory ran out
abbrev pub IsAnswer : Result (Unit {0}) Fetch → Result (Unit {0}) Fetch → Type 0
IsAnswer (Err Memory) due = ⊤
IsAnswer answer due = answer ≡ due

-- memory ran out
abbrev pub is_memory : Result (Unit {0}) Fetch → Bool
is_memory (Err Memory) = true
is_memory answer = false

-- the fetch failed
abbrev pub is_failed : Result (Unit {0}) Fetch → Bool
is_failed (Err Failed) = true
is_failed answer = false
