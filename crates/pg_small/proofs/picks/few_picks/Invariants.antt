use Rattle.std.proofs.Common.{◌≡◌, ◌≤◌, length, take}
use Rattle.pg_small.proofs.picks.few_picks.Given as goal

-- the picks so far stand in the first bytes
abbrev pub invariant-loop-pick : goal.invariant-loop-pick
invariant-loop-pick l = record {
  counted : l.count ≡ l.pick-index;
  same : take l.count l.few ≡ take l.pick-index l.picks;
  long : length l.few ≡ 18;
  fits : length l.picks ≤ 18;
}
