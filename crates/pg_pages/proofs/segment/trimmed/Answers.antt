use Rattle.std.proofs.Common.{◌≡◌, ◌∙◌, ◌++◌, [], sym, ap, List, append-nil, arith}
use Rattle.std.specs.Borrow.{Bor}
use Rattle.std.proofs.lemmas.List.{map-append}
use Rattle.pg_list.specs.declared.item.Item.{Item}
use Rattle.pg_list.specs.Totals.{trimmed}
use Rattle.pg_lemmas.proofs.Lists.{no_items}
use Rattle.pg_pages.proofs.Printed.{trimmed_box, trimmed_front}
use Rattle.pg_column.specs.Between.{behind}
use Rattle.pg_pages.proofs.segment.trimmed.Goals as goal

pub items-preserved : goal.items-preserved
items-preserved c = trimmed_front c.items.rest.now c.item-item.result _ (behind c.items.segment.items)
    (behind c.push_solid.new.items.items) _ c.in-len1-up.len_at_least c.item-item.is
    (sym c.item_is_box.ensures ∙ c.if-item_is_box.false) c.in_ok-push_solid.ensures c.items.invariant

pub returns-then-item_is_box : goal.returns-then-item_is_box
returns-then-item_is_box c =
    ap behind c.in_ok-extend_from_slice.ensures.items
    ∙ map-append (λ (x : Bor Item). x.now) c.items.segment.items c.items.rest.now
    ∙ ap (λ (those : List Item). behind c.items.segment.items ++ those)
    (trimmed_box c.items.rest.now c.item-item.result _ c.in-len1-up.len_at_least c.item-item.is
    (sym c.item_is_box.ensures ∙ c.if-item_is_box.true))
    ∙ c.items.invariant

pub returns : goal.returns
returns c =
    let none : c.items.rest.now ≡ [] = no_items c.items.rest.now (omega (arith, c.in_default.len_below)) in
    sym (append-nil (behind c.items.segment.items))
    ∙ ap (λ (rest : List (Bor Item)). behind c.items.segment.items ++ trimmed (behind rest)) (sym none)
    ∙ c.items.invariant
