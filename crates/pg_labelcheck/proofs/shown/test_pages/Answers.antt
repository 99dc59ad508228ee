use Rattle.std.proofs.Common.{subst, ℤ, List}
use Rattle.std.specs.Int.{w128}
use Rattle.std.proofs.lemmas.Int.{to_z-of_z}
use Rattle.pg_plan.specs.declared.states.Label.{Label}
use Rattle.law_check.specs.Faults.{IsFaultOrMemory}
use Rattle.pg_labelcheck.specs.Tested.{showing}
use Rattle.pg_labelcheck.proofs.Shows.{other_cost}
use Rattle.pg_labelcheck.proofs.shown.test_pages.Goals as goal

pub returns-in-Ok : goal.returns-in-Ok
returns-in-Ok c = other_cost c.args.basis.now.galley.now c.args.basis.now.style.now c.test_text.result c.args.plan.now c.args.cost _
    c.args.text.now (to_z-of_z w128 c.args.cost (record { sfits = c.ranges.cost.sfits })) c.test_text.ensures

pub returns-in-Err : goal.returns-in-Err
returns-in-Err c = subst (λ (cost : ℤ). (labels : List Label) → IsFaultOrMemory c.args.basis.now.galley.now c.args.basis.now.style.now
    (showing c.args.plan.now cost c.args.text.now labels) c.in-Err.fault)
    (to_z-of_z w128 c.args.cost (record { sfits = c.ranges.cost.sfits }))
    (λ labels. c.in-Err.ensures c.args.text.now labels)
