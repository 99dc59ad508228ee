use Rattle.std.proofs.Common.{arith, sym, ap, subst, ◌∙◌, ◌≡◌, length, ℕ, List}
use Rattle.std.specs.List.{AllByRecursion}
use Rattle.pg_list.specs.declared.blocks.Block.{Block}
use Rattle.pg_list.specs.declared.galley.Place.{Place}
use Rattle.pg_list.specs.Places.{item_at}
use Rattle.pg_list.specs.Shapes.{IsBlock}
use Rattle.pg_list.specs.Flat.{flat_items_at}
use Rattle.pg_column.specs.Ahead.{item_place, leads_to, next_index, settled}
use Rattle.pg_column.proofs.Ahead.{IsSettled, Named, is_settled, named_settled, settle}
use Rattle.pg_column.proofs.Spans.{leads_here, leads_none, leads_on, leads_short, leads_whole, next_named, next_picks, next_settled, shorter}
use Rattle.pg_column.proofs.span.leads.Goals as goal
use Rattle.std.proofs.lemmas.Bool.{eqb-true}
use Rattle.pg_lemmas.proofs.Lists.{none_is, some_is}

pub ahead-init : goal.ahead-init
ahead-init c =
    let bs = c.blocks_of-blocks.result.now in
    let at = sym c.settled-at.ensures in
    let named = subst (λ (b : List Block). Named b c.args.from c.args.picks.now) (sym c.blocks_of-blocks.ensures.blocks)
    (eqb-true _ _ c.requires) in
    record {
      settled = subst (IsSettled bs) at (is_settled bs c.args.from);
      named = subst (λ (q : Place). Named bs q c.args.picks.now) at (named_settled bs c.args.from c.args.picks.now
          named);
      same = ap (λ xs. leads_to c.is_end-is_end.result c.args.to xs (length c.args.picks.now))
          (ap (λ (q : Place). flat_items_at bs q c.args.picks.now) c.settled-at.ensures
          ∙ settle bs c.args.from c.args.picks.now);
    }

pub returns-then-is_reached : goal.returns-then-is_reached
returns-then-is_reached c =
    let bs = c.blocks_of-blocks.result.now in
    let all = subst (AllByRecursion IsBlock) (sym c.blocks_of-blocks.ensures.blocks) c.blocks_of-blocks.ensures.shape in
    let it = some_is (item_at bs (item_place bs c.ahead.at c.ahead.left.now))
    (sym c.is_ahead.ensures.there ∙ c.ahead-test.true) in
    c.is_empty.ensures
    ∙ (leads_here bs all c.ahead.at c.ahead.left.now c.ahead.invariant.settled c.ahead.invariant.named
    c.is_end-is_end.result c.args.to it.0 it.1 (sym c.is_reached.ensures ∙ c.if-is_reached.true)
    ∙ (c.ahead.invariant.same
    ∙ leads_whole bs c.args.galley.now.blocks c.blocks_of-blocks.ensures.blocks c.is_end-is_end.result c.args.to
    c.args.from c.args.picks.now c.is_end-is_end.ensures))

pub returns-then-is_short : goal.returns-then-is_short
returns-then-is_short c =
    let bs = c.blocks_of-blocks.result.now in
    let all = subst (AllByRecursion IsBlock) (sym c.blocks_of-blocks.ensures.blocks) c.blocks_of-blocks.ensures.shape in
    let it = some_is (item_at bs (item_place bs c.ahead.at c.ahead.left.now))
    (sym c.is_ahead.ensures.there ∙ c.ahead-test.true) in
    leads_short bs all c.ahead.at c.ahead.left.now c.ahead.invariant.settled c.ahead.invariant.named
    c.is_end-is_end.result c.args.to it.0 it.1 (sym c.is_reached.ensures ∙ c.if-is_reached.false)
    (sym c.is_short.ensures ∙ c.if-is_short.true)
    ∙ (c.ahead.invariant.same
    ∙ leads_whole bs c.args.galley.now.blocks c.blocks_of-blocks.ensures.blocks c.is_end-is_end.result c.args.to
    c.args.from c.args.picks.now c.is_end-is_end.ensures)

pub ahead-smaller : goal.ahead-smaller
ahead-smaller c =
    let bs = c.blocks_of-blocks.result.now in
    let all = subst (AllByRecursion IsBlock) (sym c.blocks_of-blocks.ensures.blocks) c.blocks_of-blocks.ensures.shape in
    let it = some_is (item_at bs (item_place bs c.ahead.at c.ahead.left.now))
    (sym c.is_ahead.ensures.there ∙ c.ahead-test.true) in
    let at : c.settled-at-in-ahead.result ≡ settled bs (next_index (item_place bs c.ahead.at c.ahead.left.now)) =
    c.settled-at-in-ahead.ensures ∙ ap (settled bs) (c.next_index_of.ensures
    ∙ ap next_index c.item_place-here.ensures) in
    let less = shorter bs all c.ahead.at c.ahead.left.now c.ahead.invariant.settled c.ahead.invariant.named it.0 it.1 in
    let same = ap (λ (q : Place). length (flat_items_at bs q c.picks_behind-left.result.now)) at
    ∙ ap (λ (ps : List ℕ). length (flat_items_at bs (settled bs (next_index
    (item_place bs c.ahead.at c.ahead.left.now))) ps))
    c.picks_behind-left.ensures in
    omega (arith, less, same)

pub ahead-preserved : goal.ahead-preserved
ahead-preserved c =
    let bs = c.blocks_of-blocks.result.now in
    let all = subst (AllByRecursion IsBlock) (sym c.blocks_of-blocks.ensures.blocks) c.blocks_of-blocks.ensures.shape in
    let it = some_is (item_at bs (item_place bs c.ahead.at c.ahead.left.now))
    (sym c.is_ahead.ensures.there ∙ c.ahead-test.true) in
    let at : settled bs (next_index (item_place bs c.ahead.at c.ahead.left.now)) ≡ c.settled-at-in-ahead.result =
    sym (c.settled-at-in-ahead.ensures
    ∙ ap (settled bs) (c.next_index_of.ensures ∙ ap next_index c.item_place-here.ensures)) in
    let left = sym c.picks_behind-left.ensures in
    record {
      settled = subst (IsSettled bs) at
          (next_settled bs all c.ahead.at c.ahead.left.now c.ahead.invariant.settled c.ahead.invariant.named it.0 it.1);
      named = subst (λ (ps : List ℕ). Named bs c.settled-at-in-ahead.result ps) left
          (subst (λ (q : Place). Named bs q (next_picks bs all c.ahead.at c.ahead.left.now c.ahead.invariant.settled
          c.ahead.invariant.named)) at
          (next_named bs all c.ahead.at c.ahead.left.now c.ahead.invariant.settled c.ahead.invariant.named it.0 it.1));
      same = subst (λ (ps : List ℕ). leads_to c.is_end-is_end.result c.args.to
          (flat_items_at bs c.settled-at-in-ahead.result ps) (length ps)
          ≡ leads_to c.is_end-is_end.result c.args.to (flat_items_at bs c.args.from c.args.picks.now)
          (length c.args.picks.now)) left
          (subst (λ (q : Place). leads_to c.is_end-is_end.result c.args.to
          (flat_items_at bs q (next_picks bs all c.ahead.at c.ahead.left.now c.ahead.invariant.settled
          c.ahead.invariant.named))
          (length (next_picks bs all c.ahead.at c.ahead.left.now c.ahead.invariant.settled c.ahead.invariant.named))
          ≡ leads_to c.is_end-is_end.result c.args.to (flat_items_at bs c.args.from c.args.picks.now)
          (length c.args.picks.now)) at
          (leads_on bs all c.ahead.at c.ahead.left.now c.ahead.invariant.settled c.ahead.invariant.named
          c.is_end-is_end.result c.args.to it.0 it.1 (sym c.is_reached.ensures ∙ c.if-is_reached.false)
          (sym c.is_short.ensures ∙ c.if-is_short.false)
          ∙ c.ahead.invariant.same));
    }

pub returns : goal.returns
returns c =
    let bs = c.blocks_of-blocks.result.now in
    let all = subst (AllByRecursion IsBlock) (sym c.blocks_of-blocks.ensures.blocks) c.blocks_of-blocks.ensures.shape in
    c.has_ended.ensures
    ∙ (leads_none bs all c.ahead.at c.ahead.left.now c.ahead.invariant.settled c.ahead.invariant.named
    c.is_end-is_end.result c.args.to
    (none_is (item_at bs (item_place bs c.ahead.at c.ahead.left.now)) (sym c.is_ahead.ensures.there
    ∙ c.ahead-test.false))
    ∙ (c.ahead.invariant.same
    ∙ leads_whole bs c.args.galley.now.blocks c.blocks_of-blocks.ensures.blocks c.is_end-is_end.result c.args.to
    c.args.from c.args.picks.now c.is_end-is_end.ensures))
