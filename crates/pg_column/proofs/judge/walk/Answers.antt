use Rattle.std.proofs.Common.{arith, sym, ap, subst, ◌∙◌, Bool, List}
use Rattle.pg_list.specs.declared.blocks.Block.{Block}
use Rattle.pg_list.specs.declared.galley.Place.{Place}
use Rattle.pg_list.specs.Flat.{end_of, flat_items_at, is_same_place}
use Rattle.pg_rules.specs.Legal.{document}
use Rattle.pg_column.specs.Ahead.{item_place, is_front, settled}
use Rattle.pg_column.specs.Judged.{Walked, started, walk_to}
use Rattle.pg_column.specs.View.{view}
use Rattle.pg_column.proofs.Ahead.{IsSettled, Named, is_settled, named_settled, settle}
use Rattle.pg_column.proofs.Spans.{ahead_few, item_range, step_lists, step_named, step_settled, step_shorter, walk_here, walk_none, walk_on}
use Rattle.pg_column.proofs.judge.walk.Goals as goal
use Rattle.std.proofs.lemmas.Bool.{eqb-true}

pub ahead-init : goal.ahead-init
ahead-init c =
    let bs = c.args.galley.now.blocks in
    let doc = document c.args.galley.now c.args.style.now in
    let start = c.settled-at.ensures ∙ ap (λ (b : List Block). settled b c.args.start) c.blocks_of-blocks.ensures.blocks in
    let at = sym start in
    let to = c.is_end-is_end.ensures
    ∙ ap (λ (b : List Block). is_same_place c.args.to (end_of b)) c.blocks_of-blocks.ensures.blocks in
    let few = ahead_few bs c.settled-at.result c.args.picks.now in
    record {
      settled = subst (IsSettled bs) at (is_settled bs c.args.start);
      named = subst (λ (q : Place). Named bs q c.args.picks.now) at (named_settled bs c.args.start c.args.picks.now
          (eqb-true _ _ c.requires.named));
      style = c.start-walked.ensures.style;
      sums = omega (arith, few, c.blocks_of-blocks.ensures.count, c.start-walked.ensures.counts.0);
      notes = omega (arith, few, c.blocks_of-blocks.ensures.count, c.start-walked.ensures.counts.1);
      same = ap (λ (w : Walked). walk_to doc c.args.room.now c.is_end-is_end.result c.args.to w
          (flat_items_at bs c.settled-at.result c.args.picks.now)) c.start-walked.ensures.value
          ∙ (ap (walk_to doc c.args.room.now c.is_end-is_end.result c.args.to started)
          (ap (λ (q : Place). flat_items_at bs q c.args.picks.now) start ∙ settle bs c.args.start c.args.picks.now)
          ∙ ap (λ (b : Bool). walk_to doc c.args.room.now b c.args.to started
          (flat_items_at bs c.args.start c.args.picks.now)) to);
    }

pub next_step-requires : goal.next_step-requires
next_step-requires c = c.ahead.invariant.settled.front

pub returns-then-is_reached : goal.returns-then-is_reached
returns-then-is_reached c =
    walk_here c.args.galley.now.blocks c.blocks_of-blocks.ensures.shape c.ahead.at c.ahead.left.now
    c.ahead.invariant.settled c.ahead.invariant.named (document c.args.galley.now c.args.style.now) c.args.room.now
    c.is_end-is_end.result c.args.to (view c.ahead.walked) c.in-Some.step.item.now c.in-Some.ensures.item_is
    (sym c.is_reached.ensures ∙ c.if-is_reached.true)
    ∙ c.ahead.invariant.same

pub pass-requires-clause-range : goal.pass-requires-clause-range
pass-requires-clause-range c = item_range c.args.galley.now.blocks c.blocks_of-blocks.ensures.shape
    (item_place c.args.galley.now.blocks c.ahead.at c.ahead.left.now) c.in-Some.step.item.now c.in-Some.ensures.item_is

pub pass-requires-clause-few : goal.pass-requires-clause-few
pass-requires-clause-few c =
    let less = step_shorter c.args.galley.now.blocks c.blocks_of-blocks.ensures.shape c.ahead.at c.ahead.left.now
    c.ahead.invariant.settled c.ahead.invariant.named _ _ _ c.in-Some.ensures in
    (omega (arith, less, c.ahead.invariant.sums), omega (arith, less, c.ahead.invariant.notes))

pub ahead-smaller : goal.ahead-smaller
ahead-smaller c =
    step_shorter c.args.galley.now.blocks c.blocks_of-blocks.ensures.shape c.ahead.at c.ahead.left.now
    c.ahead.invariant.settled c.ahead.invariant.named _ _ _ c.in-Some.ensures

pub ahead-preserved : goal.ahead-preserved
ahead-preserved c =
    let bs = c.args.galley.now.blocks in
    let all = c.blocks_of-blocks.ensures.shape in
    let doc = document c.args.galley.now c.args.style.now in
    let room = c.args.room.now in
    let is = c.ahead.invariant in
    let step = c.in-Some.ensures in
    let less = step_shorter bs all c.ahead.at c.ahead.left.now is.settled is.named _ _ _ step in
    record {
      settled = step_settled bs all c.ahead.at c.ahead.left.now is.settled is.named _ _ _ step;
      named = step_named bs all c.ahead.at c.ahead.left.now is.settled is.named _ _ _ step;
      style = c.pass.ensures.style;
      sums = omega (arith, less, is.sums, c.pass.ensures.counts.0);
      notes = omega (arith, less, is.notes, c.pass.ensures.counts.1);
      same = ap (walk_to doc room c.is_end-is_end.result c.args.to (view c.pass.new.self))
          (step_lists bs all c.ahead.at c.ahead.left.now is.settled is.named _ _ _ step)
          ∙ (walk_on bs all c.ahead.at c.ahead.left.now is.settled is.named doc room
          c.is_end-is_end.result c.args.to (view c.ahead.walked) c.in-Some.step.item.now step.item_is
          (sym c.is_reached.ensures ∙ c.if-is_reached.false) (view c.pass.new.self)
          (c.pass.ensures.value (is_front bs c.ahead.at))
          ∙ is.same);
    }

pub returns : goal.returns
returns c =
    walk_none c.args.galley.now.blocks c.blocks_of-blocks.ensures.shape c.ahead.at c.ahead.left.now
    c.ahead.invariant.settled c.ahead.invariant.named (document c.args.galley.now c.args.style.now) c.args.room.now
    c.is_end-is_end.result c.args.to (view c.ahead.walked) c.in_default.ensures
    ∙ c.ahead.invariant.same
