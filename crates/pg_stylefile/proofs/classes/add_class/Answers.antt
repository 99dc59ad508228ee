use Rattle.std.proofs.Common.{sym, subst}
use Rattle.pg_style.specs.declared.style.Class.{Class}
use Rattle.pg_style.specs.Ranges.{AreRigidClasses, IsRigidKind}
use Rattle.pg_style.proofs.ClassLemmas.{all_inserted}
use Rattle.pg_stylefile.proofs.classes.add_class.Goals as goal

pub returns-clause-rigid : goal.returns-clause-rigid
returns-clause-rigid c = λ old rigid.
    subst AreRigidClasses (sym c.insert.ensures)
    (all_inserted (λ (class : Class). IsRigidKind class.kind) c.in_ok-class.class c.args.classes.now rigid
    (c.in_ok-class.ensures.rigid old))
