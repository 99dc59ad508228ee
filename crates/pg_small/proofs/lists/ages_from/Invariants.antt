use Rattle.std.proofs.Common.{◌≡◌, take}
use Rattle.pg_small.proofs.lists.ages_from.Given as goal

-- what is made so far is what was passed
abbrev pub invariant-loop-age : goal.invariant-loop-age
invariant-loop-age l = l.made ≡ take l.age-index l.ages
