use Rattle.std.proofs.Common.{◌≤◌, ◌∙◌, ap, subst, sym, List, length}
use Rattle.pg_style.specs.Ranges.{AreRigidClasses}
use Rattle.pg_style.specs.Values.{StyleValue}
use Rattle.pg_style.specs.Views.{style_of}
use Rattle.pg_style.specs.declared.style.Class.{Class}
use Rattle.pg_changes.specs.Numbers.{with_kind}
use Rattle.pg_changes.proofs.InOrder.{all_rigid, long}
use Rattle.pg_changes.proofs.Ranges.{in_classes}
use Rattle.pg_changes.proofs.change.with_kind.Goals as goal

pub invariant_of-made : goal.invariant_of-made
invariant_of-made c =
    in_classes (style_of c.made.inside) c.made.invariant c.kinded_classes-classes.result
    c.kinded_classes-classes.ensures.range
    (ap (λ (classes : List Class). length classes) c.kinded_classes-classes.ensures.value
    ∙ long c.made.inside.classes c.args.index c.args.kind.now)
    (λ old. subst AreRigidClasses (sym c.kinded_classes-classes.ensures.value)
    (all_rigid c.made.inside.classes c.args.index c.args.kind.now
    (c.requires.rigid (subst (λ (s : StyleValue). s.version ≤ 2) c.made.view_is old))
    (c.made.invariant.rigid_in old).classes_in))

pub returns : goal.returns
returns c =
    ap (λ (classes : List Class). record (style_of c.made.inside) { classes = classes })
    c.kinded_classes-classes.ensures.value
    ∙ ap (λ (s : StyleValue). with_kind s c.args.index c.args.kind.now) c.made.view_is
