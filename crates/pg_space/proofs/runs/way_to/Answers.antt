use Rattle.std.proofs.Common.{◌<◌, ◌∙◌, sym, subst, List, ℕ, true, length, get_or, arith}
use Rattle.pg_space.specs.Runs.{LeadsBack}
use Rattle.pg_space.proofs.RunsBack.{leads_home, leads_on, parent_before, whatever}
use Rattle.pg_space.proofs.runs.way_to.Goals as goal

pub back-smaller : goal.back-smaller
back-smaller c = parent_before c.args.labels.now c.back.at c.index-labels-at-in-back.result c.requires.grounded
    c.back.invariant.0 (whatever c.args.labels.now c.back.at c.index-labels-at.result
    c.index-labels-at-in-back.result true c.back.invariant.0 (sym c.is_some.ensures ∙ c.back-test.true))

pub back-preserved : goal.back-preserved
back-preserved c =
    let within : c.back.at < length c.args.labels.now = c.back.invariant.0 in
    let moved = whatever c.args.labels.now c.back.at c.index-labels-at.result c.index-labels-at-in-back.result true
    within (sym c.is_some.ensures ∙ c.back-test.true) in
    let before = parent_before c.args.labels.now c.back.at c.index-labels-at-in-back.result
    c.requires.grounded within moved in
    let leads = leads_on c.args.labels.now c.args.index c.back.way.items c.back.at
    c.index-labels-at-in-back.result within moved c.back.invariant.1 in (
      omega (arith, before),
      subst (λ (way : List ℕ). LeadsBack c.args.labels.now c.args.index way
          (get_or c.args.labels.now c.back.at c.index-labels-at-in-back.result).parent) (sym c.in_ok-push.ensures.items)
          leads,
    )

pub returns : goal.returns
returns c = leads_home c.args.labels.now c.args.index c.back.way.items c.back.at c.index-labels-at.result
    c.back.invariant.0 (sym c.is_some.ensures ∙ c.back-test.false) c.back.invariant.1
