use Rattle.std.proofs.Common.{◌≡◌, take}
use Rattle.pg_plan.proofs.pages.Moves.copy.Given as goal

-- the copies so far equal what was passed
abbrev pub invariant-loop-step : goal.invariant-loop-step
invariant-loop-step l = l.moves.items ≡ take l.step-index l.step-items
