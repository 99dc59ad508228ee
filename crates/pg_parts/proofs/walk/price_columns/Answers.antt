use Rattle.std.proofs.Common.{arith, sym, subst, List, [], take}
use Rattle.std.specs.Prelude.{reverse}
use Rattle.pg_plan.specs.declared.pages.PageMove.{PageMove}
use Rattle.pg_judge.specs.Progress.{IsProgress}
use Rattle.pg_rules.specs.Legal.{document}
use Rattle.pg_parts.specs.Priced.{ArePriced}
use Rattle.pg_parts.specs.declared.priced.PricedColumn.{PricedColumn}
use Rattle.pg_parts.proofs.Standing.{one_before, stand_at}
use Rattle.pg_parts.proofs.walk.price_columns.Goals as goal

pub loop-step-init : goal.loop-step-init
loop-step-init c =
    let start = c.start-progress.ensures.start c.args.galley.now in
    record {
      kept = c.start-progress.ensures.kept;
      number = start.number;
      progress = start;
      priced = subst (λ (xs : List PricedColumn). ArePriced (document c.args.galley.now c.args.style.now) [] (reverse xs))
          (sym c.new-columns.ensures.items) tt;
    }

pub push_next-requires-clause-fits : goal.push_next-requires-clause-fits
push_next-requires-clause-fits c =
    (stand_at (document c.args.galley.now c.args.style.now) c.args.moves.now c.loop-step.step-index c.step-item.result
    c.loop-step-test.true c.step-item.is c.requires.stand).0.stands.rules.fits

pub loop-step-preserved : goal.loop-step-preserved
loop-step-preserved c =
    let doc = document c.args.galley.now c.args.style.now in
    let ms = reverse (take c.loop-step.step-index c.args.moves.now) in
    let next = one_before c.args.moves.now c.loop-step.step-index c.step-item.result c.loop-step-test.true
    c.step-item.is in
    let stand = stand_at doc c.args.moves.now c.loop-step.step-index c.step-item.result c.loop-step-test.true
    c.step-item.is c.requires.stand in
    let old = c.loop-step.invariant.number in
    let more = c.in_ok-push_next.ensures.number in
    record {
      kept = c.in_ok-push_next.ensures.kept;
      number = omega (arith, old, more);
      progress = subst (λ (xs : List PageMove). IsProgress doc xs c.push_next.new.progress) (sym next)
          (c.in_ok-push_next.ensures.progress ms c.loop-step.invariant.progress);
      priced = subst (λ (xs : List PageMove). ArePriced doc xs (reverse c.push_next.new.columns.items)) (sym next)
          (c.in_ok-push_next.ensures.priced ms c.loop-step.invariant.progress stand c.loop-step.invariant.priced);
    }
