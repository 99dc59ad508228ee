use Rattle.std.proofs.Common.{arith}
use Rattle.pg_lemmas.proofs.InPlace.{taken_out}
use Rattle.pg_plan.proofs.ages.FewAges.remove.Goals as goal

pub returns-clause-ages : goal.returns-clause-ages
returns-clause-ages c =
    taken_out c.self.inside.ages c.copy_within.new.self c.args.self.now c.self.inside.len c.args.index c.self.view_is
    (omega (arith, c.self.told, c.self.invariant)) c.requires c.copy_within.ensures.after
