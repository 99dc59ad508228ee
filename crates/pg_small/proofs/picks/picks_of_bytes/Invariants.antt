use Rattle.std.proofs.Common.{◌≡◌, take}
use Rattle.pg_small.proofs.picks.picks_of_bytes.Given as goal

-- what is made so far is what was passed
abbrev pub invariant-loop-pick : goal.invariant-loop-pick
invariant-loop-pick l = l.made ≡ take l.pick-index l.picks
