use Rattle.std.proofs.Common.{sym, ap, subst, ◌∙◌, ◌∷◌, [], ◌++◌, Bool, List}
use Rattle.std.specs.Borrow.{Bor}
use Rattle.std.proofs.lemmas.Bool.{eqb-true}
use Rattle.std.proofs.lemmas.List.{map-append}
use Rattle.pg_list.specs.declared.blocks.Block.{Block}
use Rattle.pg_list.specs.declared.galley.Place.{Place}
use Rattle.pg_list.specs.declared.item.Item.{Item}
use Rattle.pg_list.specs.Flat.{FlatItem, end_of, flat_items_at, is_same_place}
use Rattle.pg_column.specs.Ahead.{settled}
use Rattle.pg_column.proofs.Ahead.{IsSettled, Named, is_settled, named_settled, settle}
use Rattle.pg_column.proofs.Spans.{step_lists, step_named, step_settled, step_shorter}
use Rattle.pg_column.specs.Between.{behind, items_to}
use Rattle.pg_column.proofs.Between.{between_here, between_none, between_on}
use Rattle.pg_column.proofs.walk.push_between.Goals as goal

pub ahead-init : goal.ahead-init
ahead-init c =
    let bs = c.args.galley.now.blocks in
    let start = c.settled-at.ensures ∙ ap (λ (b : List Block). settled b c.args.start) c.blocks_of-blocks.ensures.blocks in
    let at = sym start in
    let to = c.is_end-is_end.ensures
    ∙ ap (λ (b : List Block). is_same_place c.args.to (end_of b)) c.blocks_of-blocks.ensures.blocks in
    record {
      settled = subst (IsSettled bs) at (is_settled bs c.args.start);
      named = subst (λ (q : Place). Named bs q c.args.picks.now) at (named_settled bs c.args.start c.args.picks.now
          (eqb-true _ _ c.requires));
      same = ap (λ (xs : List FlatItem). behind c.args.items.now.items ++ items_to c.is_end-is_end.result c.args.to xs)
          (ap (λ (q : Place). flat_items_at bs q c.args.picks.now) start ∙ settle bs c.args.start c.args.picks.now)
          ∙ ap (λ (b : Bool). behind c.args.items.now.items
          ++ items_to b c.args.to (flat_items_at bs c.args.start c.args.picks.now)) to;
    }

pub next_step-requires : goal.next_step-requires
next_step-requires c = c.ahead.invariant.settled.front

pub returns-then-is_reached : goal.returns-then-is_reached
returns-then-is_reached c =
    between_here c.args.galley.now.blocks c.blocks_of-blocks.ensures.shape c.ahead.at c.ahead.left.now
    c.ahead.invariant.settled c.ahead.invariant.named c.is_end-is_end.result c.args.to (behind c.ahead.items.items) _
    c.ahead.invariant.same c.in-Some.step.item.now c.in-Some.ensures.item_is
    (sym c.is_reached.ensures ∙ c.if-is_reached.true)

pub ahead-smaller : goal.ahead-smaller
ahead-smaller c =
    step_shorter c.args.galley.now.blocks c.blocks_of-blocks.ensures.shape c.ahead.at c.ahead.left.now
    c.ahead.invariant.settled c.ahead.invariant.named _ _ _ c.in-Some.ensures

pub ahead-preserved : goal.ahead-preserved
ahead-preserved c =
    let bs = c.args.galley.now.blocks in
    let all = c.blocks_of-blocks.ensures.shape in
    let is = c.ahead.invariant in
    let step = c.in-Some.ensures in
    record {
      settled = step_settled bs all c.ahead.at c.ahead.left.now is.settled is.named _ _ _ step;
      named = step_named bs all c.ahead.at c.ahead.left.now is.settled is.named _ _ _ step;
      same = ap (λ xs. behind c.push.new.self.items ++ items_to c.is_end-is_end.result c.args.to xs)
          (step_lists bs all c.ahead.at c.ahead.left.now is.settled is.named _ _ _ step)
          ∙ between_on bs all c.ahead.at c.ahead.left.now is.settled is.named
          c.is_end-is_end.result c.args.to (behind c.ahead.items.items) _ is.same c.in-Some.step.item.now step.item_is
          (sym c.is_reached.ensures ∙ c.if-is_reached.false) (behind c.push.new.self.items)
          (ap behind c.in_ok-push.ensures.items ∙ map-append (λ (x : Bor Item). x.now) c.ahead.items.items
          (c.in-Some.step.item ∷ []));
    }

pub returns : goal.returns
returns c =
    between_none c.args.galley.now.blocks c.blocks_of-blocks.ensures.shape c.ahead.at c.ahead.left.now
    c.ahead.invariant.settled c.ahead.invariant.named c.is_end-is_end.result c.args.to (behind c.ahead.items.items) _
    c.ahead.invariant.same c.in_default.ensures
