use Rattle.std.proofs.Common.{◌≡◌, take}
use Rattle.pg_small.proofs.lists.counts_from.Given as goal

-- what is made so far is what was passed
abbrev pub invariant-loop-count : goal.invariant-loop-count
invariant-loop-count l = l.made ≡ take l.count-index l.counts
