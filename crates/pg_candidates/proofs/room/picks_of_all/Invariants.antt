use Rattle.std.proofs.Common.{◌≡◌, map, rc_value, take}
use Rattle.pg_candidates.specs.Nears.{all_picks}
use Rattle.pg_candidates.specs.View.{candidate_of}
use Rattle.pg_candidates.proofs.room.picks_of_all.Given as goal

abbrev pub invariant-loop-candidate : goal.invariant-loop-candidate
invariant-loop-candidate l = record {
  picks : map rc_value l.picks.items ≡ all_picks (map candidate_of (take l.candidate-index l.candidates));
}
