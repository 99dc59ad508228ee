use Rattle.std.proofs.Common.{◌∙◌, sym}
use Rattle.pg_list.specs.Barrier.{text_block}
use Rattle.pg_list.specs.Flat.{is_same_place}
use Rattle.pg_rules.specs.Floats.{called, flushed}
use Rattle.pg_rules.specs.Legal.{are_placed, are_ready}
use Rattle.pg_judge.proofs.Flushed.{all_placed, kept_else, kept_then, ready_is}
use Rattle.pg_judge.proofs.barriers.keeps_barriers.Goals as goal

pub returns-then-are_slots_ready : goal.returns-then-are_slots_ready
returns-then-are_slots_ready c = λ before behind p q.
    let blocks = c.args.basis.now.galley.now.blocks in
    let style = c.args.basis.now.style.now in
    let from = c.args.column.now.from in
    let to = c.args.column.now.to in
    kept_then (is_same_place from to)
    (are_ready style (called blocks style from) (flushed blocks style (text_block blocks from)) before)
    (are_placed style (flushed blocks style to.block) behind) c.are_flushed.result
    (sym c.is_same_place.ensures ∙ c.if-is_same_place.false)
    (sym (ready_is blocks style from c.text_block_at-text.result c.args.slots before c.are_slots_ready.result
    c.requires.slots c.text_block_at-text.ensures (c.are_slots_ready.ensures before p)) ∙ c.if-are_slots_ready.true)
    (all_placed blocks style to.block c.args.slots behind c.are_flushed.result c.requires.slots
    (c.are_flushed.ensures behind q))

pub returns-else-are_slots_ready : goal.returns-else-are_slots_ready
returns-else-are_slots_ready c = λ before behind p q.
    let blocks = c.args.basis.now.galley.now.blocks in
    let style = c.args.basis.now.style.now in
    let from = c.args.column.now.from in
    let to = c.args.column.now.to in
    c.if-are_slots_ready.false ∙ kept_else (is_same_place from to)
    (are_ready style (called blocks style from) (flushed blocks style (text_block blocks from)) before)
    (are_placed style (flushed blocks style to.block) behind)
    (sym c.is_same_place.ensures ∙ c.if-is_same_place.false)
    (sym (ready_is blocks style from c.text_block_at-text.result c.args.slots before c.are_slots_ready.result
    c.requires.slots c.text_block_at-text.ensures (c.are_slots_ready.ensures before p)) ∙ c.if-are_slots_ready.false)
