use Rattle.std.proofs.Common.{subst}
use Rattle.pg_floats.specs.AreFloats.{AreFloats}
use Rattle.pg_session.specs.SessionValue.{SessionValue}
use Rattle.pg_session.proofs.session.Session.floats.Goals as goal

pub returns-clause-are : goal.returns-clause-are
returns-clause-are c = subst (λ (x : SessionValue). AreFloats x.galley.blocks x.style c.self.inside.floats)
    c.self.view_is c.self.invariant.floats_are
