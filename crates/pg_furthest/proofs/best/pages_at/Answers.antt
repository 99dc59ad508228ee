use Rattle.std.proofs.Common.{rules, arith, ◌≡◌, sym, ap, ◌∙◌, subst, List, length}
use Rattle.std.specs.Int.{w128}
use Rattle.std.specs.Prelude.{reverse}
use Rattle.std.proofs.lemmas.Int.{to_z-of_z}
use Rattle.std.proofs.lemmas.List.{length-reverse}
use Rattle.pg_lemmas.proofs.Lists.{some_at}
use Rattle.law_columns.specs.Pages.{plan_of}
use Rattle.law_columns.specs.Stands.{Stand}
use Rattle.pg_plan.specs.Order.{columns}
use Rattle.pg_plan.specs.declared.pages.PageMove.{PageMove}
use Rattle.pg_style.specs.Values.{StyleValue}
use Rattle.pg_rules.specs.Best.{Best}
use Rattle.pg_rules.specs.Cost.{cost}
use Rattle.pg_rules.specs.Legal.{document}
use Rattle.pg_parts.specs.Priced.{ArePriced}
use Rattle.pg_furthest.proofs.Columns.{priced_long}
use Rattle.pg_furthest.proofs.best.pages_at.Goals as goal

pub price_columns-requires-clause-stand : goal.price_columns-requires-clause-stand
price_columns-requires-clause-stand c =
    let label = some_at c.args.labels.now c.args.at c.requires.best.within in
    let are = c.columns_of_labels.ensures c.args.labels.now c.args.at label.0 (reverse c.in_ok-moves.moves)
    c.requires.filled label.1 (c.in_ok-moves.ensures label.0 label.1) in
    subst (λ (moves : List PageMove). Stand (document c.args.galley.now c.args.style.now) (reverse moves))
    (sym c.as_slice.ensures) are.stand

pub price_columns-requires-clause-few : goal.price_columns-requires-clause-few
price_columns-requires-clause-few c =
    let label = some_at c.args.labels.now c.args.at c.requires.best.within in
    let are = c.columns_of_labels.ensures c.args.labels.now c.args.at label.0 (reverse c.in_ok-moves.moves)
    c.requires.filled label.1 (c.in_ok-moves.ensures label.0 label.1) in
    let few = are.few in
    let long = length-reverse c.in_ok-moves.moves in
    let same = ap length c.as_slice.ensures in
    omega (arith, few, long, same)

pub returns : goal.returns
returns c =
    let g = c.args.galley.now in
    let s = c.args.style.now in
    let moves = c.in_ok-moves.moves in
    let label = some_at c.args.labels.now c.args.at c.requires.best.within in
    let of = c.in_ok-moves.ensures label.0 label.1 in
    let are = c.columns_of_labels.ensures c.args.labels.now c.args.at label.0 (reverse moves) c.requires.filled label.1
    of in
    let plan_is : c.in_ok-plan.plan ≡ plan_of s (reverse moves) = c.in_ok-plan.ensures
    ∙ ap (λ (style : StyleValue). plan_of style (reverse moves)) c.new-space.ensures.style in
    let best = c.requires.best.best label.0 (reverse moves) label.1 of in
    let priced = subst (λ (xs : List PageMove). ArePriced (document g s) (reverse xs)
    (reverse c.in_ok-pricing.pricing.columns.items)) c.as_slice.ensures c.in_ok-pricing.ensures in
    let few = are.few in
    let long = priced_long (document g s) (reverse moves) (reverse c.in_ok-pricing.pricing.columns.items) priced in
    let back = length-reverse c.in_ok-pricing.pricing.columns.items in
    record {
      best = subst (Best g s) (sym plan_is) best.0;
      cost = ap (cost g s) plan_is ∙ (best.1 ∙ (sym (c.cost_at.ensures label.0 label.1)
          ∙ sym (to_z-of_z w128 c.cost_at.result (record { sfits = search rules }))));
      priced = subst (λ (ms : List PageMove). ArePriced (document g s) ms (reverse c.in_ok-pricing.pricing.columns.items))
          (sym (ap columns plan_is ∙ are.columns)) priced;
      few = omega (arith, few, long, back);
    }
