use Rattle.std.proofs.Common.{◌∙◌, refl, ap, rules, subst, arith, List, [], ℤ, w32, to_z, of_z, sym, length, ◌≤◌, ◌^◌, pos}
use Rattle.std.proofs.lemmas.Int.{to_z-of_z}
use Rattle.pg_style.specs.Values.{StyleValue}
use Rattle.pg_list.specs.declared.item.Item.{Item}
use Rattle.pg_notes.specs.AreNotes.{AreNotes}
use Rattle.pg_sums.specs.AreSums.{AreSums}
use Rattle.pg_column.specs.Between.{behind}
use Rattle.pg_pages.proofs.Sums.{all_added, none_added, one_added, next_range, so_few}
use Rattle.std.specs.Prelude.{◌≤ℤ◌}
use Rattle.pg_scaled.specs.Ranges.{IsScaled}
use Rattle.pg_pages.proofs.Printed.{behind_long}
use Rattle.pg_pages.proofs.column_numbers.add_up.Goals as goal

pub items-preserved : goal.items-preserved
items-preserved c = one_added c.args.style.now (behind c.args.items.now) c.items.sums c.items.notes c.items.rest.now
    c.item-item.result _ c.add.new.self c.add-in-len1-up.new.self c.in-len1-up.len_at_least c.item-item.is
    c.add.ensures.count c.add.ensures.sums c.add-in-len1-up.ensures.notes c.items.invariant

pub returns-clause-sums : goal.returns-clause-sums
returns-clause-sums c =
    subst (λ (xs : List Item). AreSums c.args.style.now.topskip c.args.style.now.maxdepth xs c.items.sums)
    (all_added c.args.style.now (behind c.args.items.now) c.items.sums c.items.notes c.items.rest.now c.items.invariant
    (omega (arith, c.in_default.len_below)))
    c.items.invariant.sums_are

pub returns-clause-notes : goal.returns-clause-notes
returns-clause-notes c =
    subst (λ (xs : List Item). AreNotes c.args.style.now xs c.items.notes)
    (all_added c.args.style.now (behind c.args.items.now) c.items.sums c.items.notes c.items.rest.now c.items.invariant
    (omega (arith, c.in_default.len_below)))
    c.items.invariant.notes_are

pub items-init : goal.items-init
items-init c =
    let style = c.args.style.now in
    let inside = c.style.inside in
    let topskip = to_z-of_z w32 inside.topskip (record { sfits = search rules })
    ∙ ap (λ (it : StyleValue). it.topskip) c.style.view_is in
    let maxdepth = to_z-of_z w32 inside.maxdepth (record { sfits = search rules })
    ∙ ap (λ (it : StyleValue). it.maxdepth) c.style.view_is in
    none_added style (behind c.args.items.now) c.start-sums.result c.start-notes.result c.start-sums.ensures.count
    c.requires.ranges c.args.items.now refl
    (subst (λ (z : ℤ). AreSums style.topskip z [] c.start-sums.result) maxdepth
    (subst (λ (z : ℤ). AreSums z (to_z w32 (of_z w32 inside.maxdepth)) [] c.start-sums.result) topskip
    c.start-sums.ensures.sums))
    (c.start-notes.ensures.notes style c.stays_in_range.ensures)

pub start-sums-requires-clause-topskip : goal.start-sums-requires-clause-topskip
start-sums-requires-clause-topskip c =
    let topskip = to_z-of_z w32 c.style.inside.topskip (record { sfits = search rules })
    ∙ ap (λ (it : StyleValue). it.topskip) c.style.view_is in
    subst IsScaled (sym topskip) c.stays_in_range.ensures.topskip_in.1

pub start-sums-requires-clause-maxdepth : goal.start-sums-requires-clause-maxdepth
start-sums-requires-clause-maxdepth c =
    let maxdepth = to_z-of_z w32 c.style.inside.maxdepth (record { sfits = search rules })
    ∙ ap (λ (it : StyleValue). it.maxdepth) c.style.view_is in
    subst IsScaled (sym maxdepth) c.stays_in_range.ensures.maxdepth_in.1

pub start-sums-requires-clause-hanging : goal.start-sums-requires-clause-hanging
start-sums-requires-clause-hanging c =
    let maxdepth = to_z-of_z w32 c.style.inside.maxdepth (record { sfits = search rules })
    ∙ ap (λ (it : StyleValue). it.maxdepth) c.style.view_is in
    subst (λ (z : ℤ). pos 0 ≤ℤ z) (sym maxdepth) c.stays_in_range.ensures.maxdepth_in.0

pub add-requires-clause-few : goal.add-requires-clause-few
add-requires-clause-few c =
    let long = behind_long c.args.items.now in
    let few : length (behind c.args.items.now) ≤ 2 ^ 20 = omega (arith, long, c.requires.few) in
    (so_few c.args.style.now (behind c.args.items.now) c.items.sums c.items.notes c.items.rest.now c.items.invariant
    few c.in-len1-up.len_at_least).0

pub add-requires-clause-in_range : goal.add-requires-clause-in_range
add-requires-clause-in_range c =
    next_range c.args.style.now (behind c.args.items.now) c.items.sums c.items.notes c.items.rest.now c.items.invariant
    c.item-item.result _ c.in-len1-up.len_at_least c.item-item.is

pub add-requires-in-len1-up-clause-few : goal.add-requires-in-len1-up-clause-few
add-requires-in-len1-up-clause-few c =
    let long = behind_long c.args.items.now in
    let few : length (behind c.args.items.now) ≤ 2 ^ 20 = omega (arith, long, c.requires.few) in
    (so_few c.args.style.now (behind c.args.items.now) c.items.sums c.items.notes c.items.rest.now c.items.invariant
    few c.in-len1-up.len_at_least).1

pub add-requires-in-len1-up-clause-in_range : goal.add-requires-in-len1-up-clause-in_range
add-requires-in-len1-up-clause-in_range c =
    next_range c.args.style.now (behind c.args.items.now) c.items.sums c.items.notes c.items.rest.now c.items.invariant
    c.item-item.result _ c.in-len1-up.len_at_least c.item-item.is
