use Rattle.std.proofs.Common.{rules, w32, ◌≡◌, refl, sym, ap, ◌∙◌, subst, arith, length, List, ℤ, true, false, Some}
use Rattle.std.specs.Prelude.{is_some}
use Rattle.std.proofs.lemmas.Int.{to_z-of_z}
use Rattle.std.specs.List.{AllByRecursion}
use Rattle.pg_list.specs.Break.{break_penalty}
use Rattle.pg_list.specs.Ranges.{IsItemInRange}
use Rattle.pg_list.specs.declared.item.Item.{Item}
use Rattle.pg_notes.specs.AreNotes.{AreNotes}
use Rattle.pg_sums.specs.AreSums.{AreSums}
use Rattle.pg_rules.specs.Legal.{document}
use Rattle.pg_rules.specs.Room.{items_of}
use Rattle.pg_pages.proofs.Printed.{behind_long}
use Rattle.pg_pages.specs.Seated.{seated}
use Rattle.pg_pages.proofs.TextColumn.{named, sized, text_ends, text_few, text_items, text_range}
use Rattle.pg_pages.proofs.column_numbers.numbers_of.Goals as goal

pub add_up-whole-requires-clause-few : goal.add_up-whole-requires-clause-few
add_up-whole-requires-clause-few c =
    let it = seated (document c.args.galley.now c.args.style.now) c.args.seat.now c.args.column.now in
    let size = sized it c.requires.shape c.stays_in_range.ensures c.requires.rules in
    let same = ap length (c.requires.items
    ∙ text_items it c.requires.shape c.stays_in_range.ensures c.requires.rules size.0 size.1) in
    let long = behind_long c.args.items.now in
    let few = text_few it c.requires.shape c.stays_in_range.ensures c.requires.rules size.0 size.1
    c.blocks_of-blocks.ensures.count in
    omega (arith, same, long, few)

pub add_up-whole-requires-clause-ranges : goal.add_up-whole-requires-clause-ranges
add_up-whole-requires-clause-ranges c =
    let it = seated (document c.args.galley.now c.args.style.now) c.args.seat.now c.args.column.now in
    let size = sized it c.requires.shape c.stays_in_range.ensures c.requires.rules in
    subst (AllByRecursion IsItemInRange) (sym (c.requires.items
    ∙ text_items it c.requires.shape c.stays_in_range.ensures c.requires.rules size.0 size.1))
    (text_range it c.requires.shape c.stays_in_range.ensures c.requires.rules size.0 size.1)

pub unreachable-requires : goal.unreachable-requires
unreachable-requires c =
    let it = seated (document c.args.galley.now c.args.style.now) c.args.seat.now c.args.column.now in
    let size = sized it c.requires.shape c.stays_in_range.ensures c.requires.rules in
    let ends = text_ends it c.requires.shape c.stays_in_range.ensures c.requires.rules size.0 size.1 c.requires.text in
    let same = c.break_cost.ensures.column c.args.column.now.from c.args.column.now.picks size.0
    (named it c.requires.shape c.stays_in_range.ensures c.requires.rules size.0 size.1) size.1 ends.0 in
    let none : is_some (break_penalty (items_of it) size.0) ≡ false = ap is_some (sym same ∙ c.in-None.is) in
    let no : true ≡ false = sym ends.1 ∙ none in
    cc

pub returns : goal.returns
returns c = λ n size.
    let it = seated (document c.args.galley.now c.args.style.now) c.args.seat.now c.args.column.now in
    let ends = text_ends it c.requires.shape c.stays_in_range.ensures c.requires.rules n size c.requires.text in
    let names = named it c.requires.shape c.stays_in_range.ensures c.requires.rules n size in
    let items = c.requires.items
    ∙ text_items it c.requires.shape c.stays_in_range.ensures c.requires.rules n size in
    c.text_cost.ensures.column it n refl (sym c.requires.room)
    (subst (λ (xs : List Item). AreSums c.args.style.now.topskip c.args.style.now.maxdepth xs
    c.add_up-whole.result.sums) items c.add_up-whole.ensures.sums)
    (subst (λ (xs : List Item). AreNotes c.args.style.now xs c.add_up-whole.result.notes) items
    c.add_up-whole.ensures.notes)
    (c.is_spent-is_spent.ensures.column c.args.column.now.from c.args.column.now.picks n names size)
    (sym (c.break_cost.ensures.column c.args.column.now.from c.args.column.now.picks n names size ends.0)
    ∙ c.in-Some.is
    ∙ ap (λ (z : ℤ). Some z) (sym (to_z-of_z w32 c.in-Some.penalty (record { sfits = search rules }))))
