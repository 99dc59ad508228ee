use Rattle.std.specs.Prelude.{◌≤◌}
use Rattle.std.proofs.lemmas.Result.{IfOk-weaker}
use Rattle.pg_style.specs.declared.style.Kind.{Kind}
use Rattle.pg_style.specs.Ranges.{IsRigidKind}
use Rattle.pg_stylefile.proofs.classes.read_kind.Goals as goal

pub returns-in-Float-clause-rigid : goal.returns-in-Float-clause-rigid
returns-in-Float-clause-rigid c =
    IfOk-weaker c.read_float.result IsRigidKind (λ (kind : Kind). c.args.version ≤ 2 → IsRigidKind kind)
    (λ kind rigid old. rigid) c.read_float.ensures.rigid
