use Rattle.std.proofs.Common.{◌≡◌, ◌∙◌, ◌++◌, ◌-◌, ◌∷◌, sym, ap, subst, List, ℕ, take, drop, length, append_assoc}
use Rattle.std.specs.List.{AllByRecursion}
use Rattle.pg_list.specs.declared.item.Item.{Item}
use Rattle.pg_list.specs.declared.blocks.Block.{Block}
use Rattle.pg_list.specs.Places.{picked_items}
use Rattle.pg_list.specs.Shapes.{IsBlock}
use Rattle.pg_floats.specs.Callouts.{first_items}
use Rattle.pg_pages.specs.PageText.{inserted}
use Rattle.pg_pages.proofs.Printed.{inserted_append, split_first}
use Rattle.pg_column.specs.Between.{behind}
use Rattle.pg_pages.proofs.areas.class_bodies.Goals as goal

pub each-preserved : goal.each-preserved
each-preserved c =
    let rest = c.each.rest.now in
    let number = c.args.number in
    let block = c.block-item.result in
    let after = take (length rest - 1) (drop 1 rest) in
    let opened : block ∷ after ≡ rest = split_first rest block _ c.in-len1-up.len_at_least c.block-item.is in
    let own = inserted number (picked_items block 0) in
    let others = inserted number (first_items after) in
    record {
      shape = (subst (AllByRecursion IsBlock) (sym opened) c.each.invariant.shape).1;
      same = ap (λ (front : List (List ℕ)). front ++ others) (c.in_ok-push_bodies.ensures
          ∙ ap (λ (items : List Item). behind c.each.bodies.items ++ inserted number items) c.first_items_of.ensures.items)
          ∙ append_assoc (behind c.each.bodies.items) own others
          ∙ ap (λ (more : List (List ℕ)). behind c.each.bodies.items ++ more)
          (sym (inserted_append number (picked_items block 0) (first_items after)))
          ∙ ap (λ (blocks : List Block). behind c.each.bodies.items ++ inserted number (first_items blocks)) opened
          ∙ c.each.invariant.same;
    }
