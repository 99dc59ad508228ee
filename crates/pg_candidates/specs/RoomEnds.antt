-- Ends in a room that tell by a number which candidate they are of.
use Rattle.std.specs.Prelude.{ℕ, List, [], map, slice_get, unwrap_or}
use Rattle.pg_column.specs.declared.cost.TextCost.{TextCost}
use Rattle.pg_column.specs.declared.end.End.{End}
use Rattle.pg_candidates.specs.Nears.{NearValue}
use Rattle.pg_candidates.specs.declared.room_end.RoomEnd.{RoomEnd}

-- the picks at an index, and none where there are none
abbrev pub picks_at : List (List ℕ) → ℕ → List ℕ
picks_at ps at = unwrap_or (slice_get ps at) []

-- the end with its picks
abbrev pub end_of : List (List ℕ) → RoomEnd → End
end_of ps it = record { to = it.to; picks = picks_at ps it.at; cost = it.cost; pick_demerits = it.pick_demerits }

-- all of them
abbrev pub ends_of : List (List ℕ) → List RoomEnd → List End
ends_of ps its = map (end_of ps) its

-- the end with these numbers of the candidate that this is of
abbrev pub end_by : NearValue → TextCost → RoomEnd
end_by near cost = record { to = near.to; at = near.at; cost = cost; pick_demerits = near.pick_demerits }
