use Rattle.std.proofs.Common.{ap}
use Rattle.pg_rules.specs.Room.{Document}
use Rattle.pg_judge.proofs.moves.judge_own.Goals as goal

pub returns-then-is_same_place : goal.returns-then-is_same_place
returns-then-is_same_place c = λ it d k seat. c.judge_floats.ensures it (ap (λ (doc : Document). doc.style) d) k seat
