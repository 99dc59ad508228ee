use Rattle.std.proofs.Common.{inl}
use Rattle.std.proofs.lemmas.Result.{IfOk-weaker}
use Rattle.pg_table.proofs.listed.ListedOffering.offer.Goals as goal

-- all moves are wanted
pub returns-clause-moves : goal.returns-clause-moves
returns-clause-moves g c = IfOk-weaker c.expand.result _ _ (λ o are. record {
  sound = are.sound;
  whole = λ m v cost follows. inl (are.whole m v cost follows);
  once = are.once;
}) c.expand.ensures.moves

pub returns-clause-reach : goal.returns-clause-reach
returns-clause-reach g c = c.expand.ensures.reach
