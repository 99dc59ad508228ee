use Rattle.std.proofs.Common.{◌∙◌, ap, arith, ◌≤◌, ◌+◌, List, length}
use Rattle.pg_style.specs.declared.style.Class.{Class}
use Rattle.pg_changes.specs.Numbers.{kinded_at}
use Rattle.pg_changes.proofs.InOrder.{put_class, put_last, put_number, whole}
use Rattle.pg_changes.proofs.classes.kinded_classes.Goals as goal

pub insert-requires-clause-range : goal.insert-requires-clause-range
insert-requires-clause-range c =
    put_class c.as_slice-all.result.now c.args.index c.classes.at c.args.kind.now c.class_at.result c.classes.made
    c.classes.invariant.2 c.requires c.classes-test.true c.class_at.ensures c.classes.invariant.1

pub insert-requires-clause-new_number : goal.insert-requires-clause-new_number
insert-requires-clause-new_number c =
    put_number c.as_slice-all.result.now c.args.index c.classes.at c.args.kind.now c.class_at.result c.classes.made
    c.classes.invariant.2 c.requires c.classes-test.true c.class_at.ensures c.classes.invariant.1

pub classes-preserved : goal.classes-preserved
classes-preserved c =
    let within : c.classes.at + 1 ≤ length c.as_slice-all.result.now = omega (arith, c.classes-test.true) in (
      within,
      put_last c.as_slice-all.result.now c.args.index c.classes.at c.args.kind.now c.class_at.result c.classes.made
          c.classes.invariant.2 c.requires c.classes-test.true c.class_at.ensures c.classes.invariant.1 c.insert.new.self
          c.insert.ensures,
      c.classes.invariant.2,
    )

pub returns-clause-value : goal.returns-clause-value
returns-clause-value c =
    let past_all : length c.as_slice-all.result.now ≤ c.classes.at = omega (arith, c.classes-test.false) in
    whole c.as_slice-all.result.now c.args.index c.classes.at c.args.kind.now c.classes.made past_all
    c.classes.invariant.1
    ∙ ap (λ (cs : List Class). kinded_at cs c.args.index c.args.kind.now) c.as_slice-all.ensures.classes
