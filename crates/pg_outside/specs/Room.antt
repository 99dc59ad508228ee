-- A sink of a fixed room, and which of its writes fail.
use Rattle.std.specs.Option.{option_map}
use Rattle.std.specs.Prelude.{find, ℕ, ◌==◌, min, List, Option, Bool, ◌&&◌, is_none, nat_le, unwrap_or}
use Rattle.pg_outside.specs.Outside.{next_number}

-- a sink's bytes, the room that is left, the numbers of the writes that fail with the bytes that each takes,
-- how many writes came and how many failed
pub record SinkState : Type 0 where
  pub bytes : List ℕ
  pub room : ℕ
  pub fails : List (ℕ × ℕ)
  pub writes : ℕ
  pub faults : ℕ

-- after how many bytes the write of this number fails, by the first entry for it
abbrev pub fails_after : List (ℕ × ℕ) → ℕ → Option ℕ
fails_after fails number = option_map (λ f. f.1) (find (λ f. f.0 == number) fails)

-- how many of so many bytes the next write takes: what fits, and no more than where it is listed to fail
abbrev pub taken : SinkState → ℕ → ℕ
taken sink len = min (min len sink.room) (unwrap_or (fails_after sink.fails (next_number sink.writes)) len)

-- the next write is not listed to fail, and so many bytes fit
abbrev pub accepts : SinkState → ℕ → Bool
accepts sink len = is_none (fails_after sink.fails (next_number sink.writes)) && nat_le len sink.room
