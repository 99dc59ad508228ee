use Rattle.std.proofs.Common.{◌≡◌, map, rc_value, take}
use Rattle.pg_candidates.specs.RoomEnds.{ends_of}
use Rattle.pg_candidates.proofs.room_end.all_with_picks.Given as goal

abbrev pub invariant-loop-it : goal.invariant-loop-it
invariant-loop-it l = record { ends : l.ends ≡ ends_of (map rc_value l.listed) (take l.it-index l.its) }
