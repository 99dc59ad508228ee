use Rattle.std.proofs.Common.{arith, sym, ap, subst, ◌∙◌, ◌≡◌, ◌++◌, ◌+◌, ◌-◌, ◌∷◌, [], List, ℕ, take, drop, length, append-nil, append_assoc, refl, Option, ℤ}
use Rattle.pg_lemmas.proofs.Lists.{no_items}
use Rattle.pg_plan.specs.declared.pages.Column.{Column}
use Rattle.pg_rules.specs.Floats.{plus_counts}
use Rattle.pg_rules.specs.Legal.{document}
use Rattle.pg_pages.specs.Printed.{FitTogether}
use Rattle.pg_pages.specs.Sheets.{MayFrom, columns_from, placed_behind, placed_from, seat_text, context_at}
use Rattle.pg_pages.proofs.Printed.{split_first}
use Rattle.pg_pages.proofs.Grown.{grows_on, grows_same}
use Rattle.pg_pages.proofs.TextColumn.{bodies_long, seat_same}
use Rattle.pg_pages.specs.Seated.{MayPrint}
use Rattle.pg_pages.proofs.sheets.print_seats.Goals as goal

pub each-preserved : goal.each-preserved
each-preserved c =
    let doc = document c.args.matter.now.galley.now c.args.matter.now.style.now in
    let run = c.args.seat.now.run in
    let wide = c.args.seat.now.wide in
    let rest = c.each.rest.now in
    let column = c.column-item.result in
    let after = take (length rest - 1) (drop 1 rest) in
    let opened : column ∷ after ≡ rest = split_first rest column _ c.in-len1-up.len_at_least c.column-item.is in
    let before = c.each.seat.before in
    let next = c.in_ok-seat.ensures ∙ ap (λ (counts : List ℕ). placed_behind c.args.matter.now.style.now counts column)
    c.as_slice.ensures in
    let here = seat_text doc run wide c.each.number before column in
    let long = ap length opened in
    record {
      run = c.each.invariant.run;
      wide = c.each.invariant.wide;
      text = ap (λ (counts : List ℕ). c.print_column.new.out.items
          ++ columns_from doc run wide (c.each.number + 1) counts after) next
          ∙ ap (λ (front : List ℕ). front
          ++ columns_from doc run wide (c.each.number + 1) (placed_behind c.args.matter.now.style.now before column)
          after)
          (c.in_ok-print_column.ensures.ok ∙ ap (λ (text : List ℕ). c.each.out.items ++ text)
          (seat_same doc c.each.seat column c.each.number run wide c.each.invariant.run c.each.invariant.wide))
          ∙ append_assoc c.each.out.items here
          (columns_from doc run wide (c.each.number + 1) (placed_behind c.args.matter.now.style.now before column)
          after)
          ∙ ap (λ (columns : List Column). c.each.out.items
          ++ columns_from doc run wide c.each.number before columns) opened
          ∙ c.each.invariant.text;
      placed = ap (λ (counts : List ℕ). placed_from c.args.matter.now.style.now counts after) next
          ∙ ap (λ (columns : List Column). placed_from c.args.matter.now.style.now before columns) opened
          ∙ c.each.invariant.placed;
      may = subst (λ (counts : List ℕ). MayFrom doc run wide counts after) (sym next)
          (subst (λ (columns : List Column). MayFrom doc run wide before columns) (sym opened) c.each.invariant.may).1;
      number = omega (arith, long, c.each.invariant.number);
      grows = grows_on c.args.out.now.items c.each.out.items c.print_column.new.out.items c.each.invariant.grows
          c.in_ok-print_column.ensures.grows;
    }

pub placed_after-requires-clause-slots : goal.placed_after-requires-clause-slots
placed_after-requires-clause-slots c =
    bodies_long (document c.args.matter.now.galley.now c.args.matter.now.style.now) _ c.args.matter.now.bodies.now
    c.requires.bodies

pub placed_after-requires-clause-tops : goal.placed_after-requires-clause-tops
placed_after-requires-clause-tops c =
    let doc = document c.args.matter.now.galley.now c.args.matter.now.style.now in
    let column = c.column-item.result in
    let opened = split_first c.each.rest.now column _ c.in-len1-up.len_at_least c.column-item.is in
    let may = subst (λ (columns : List Column). MayFrom doc c.args.seat.now.run c.args.seat.now.wide c.each.seat.before
    columns) (sym opened) c.each.invariant.may in
    subst (λ (counts : List ℕ). FitTogether counts column.top) (sym c.as_slice.ensures) may.0.tops_fit

pub placed_after-requires-clause-bottoms : goal.placed_after-requires-clause-bottoms
placed_after-requires-clause-bottoms c =
    let doc = document c.args.matter.now.galley.now c.args.matter.now.style.now in
    let column = c.column-item.result in
    let opened = split_first c.each.rest.now column _ c.in-len1-up.len_at_least c.column-item.is in
    let may = subst (λ (columns : List Column). MayFrom doc c.args.seat.now.run c.args.seat.now.wide c.each.seat.before
    columns) (sym opened) c.each.invariant.may in
    subst (λ (counts : List ℕ). FitTogether (plus_counts c.args.matter.now.style.now counts column.top) column.bottom)
    (sym c.as_slice.ensures) may.0.bottoms_fit

pub print_column-requires-clause-floats : goal.print_column-requires-clause-floats
print_column-requires-clause-floats c = c.requires.floats

pub print_column-requires-clause-bodies : goal.print_column-requires-clause-bodies
print_column-requires-clause-bodies c = c.requires.bodies

pub returns-in_err-seat-clause-grows : goal.returns-in_err-seat-clause-grows
returns-in_err-seat-clause-grows c = grows_on c.args.out.now.items c.each.out.items c.print_column.new.out.items
    c.each.invariant.grows c.in_ok-print_column.ensures.grows

pub returns-clause-ok : goal.returns-clause-ok
returns-clause-ok c =
    let doc = document c.args.matter.now.galley.now c.args.matter.now.style.now in
    let none : c.each.rest.now ≡ [] = no_items c.each.rest.now (omega (arith, c.in_default.len_below)) in
    sym (append-nil c.each.out.items)
    ∙ ap (λ (columns : List Column). c.each.out.items ++ columns_from doc c.args.seat.now.run c.args.seat.now.wide
    c.each.number c.each.seat.before columns) (sym none)
    ∙ c.each.invariant.text

pub returns-clause-placed : goal.returns-clause-placed
returns-clause-placed c =
    let none : c.each.rest.now ≡ [] = no_items c.each.rest.now (omega (arith, c.in_default.len_below)) in
    ap (λ (columns : List Column). placed_from c.args.matter.now.style.now c.each.seat.before columns) (sym none)
    ∙ c.each.invariant.placed

pub returns-in_err-print_column-clause-grows : goal.returns-in_err-print_column-clause-grows
returns-in_err-print_column-clause-grows c = grows_on c.args.out.now.items c.each.out.items
    c.print_column.new.out.items c.each.invariant.grows c.print_column.ensures.grows

pub each-init : goal.each-init
each-init c = record {
  run = refl;
  wide = refl;
  text = refl;
  placed = refl;
  may = c.requires.may;
  number = refl;
  grows = grows_same c.args.out.now.items;
}

pub print_column-requires-clause-may : goal.print_column-requires-clause-may
print_column-requires-clause-may c =
    let doc = document c.args.matter.now.galley.now c.args.matter.now.style.now in
    let run = c.args.seat.now.run in
    let column = c.column-item.result in
    let before = c.each.seat.before in
    let opened = split_first c.each.rest.now column _ c.in-len1-up.len_at_least c.column-item.is in
    let may = subst (λ (columns : List Column). MayFrom doc run c.args.seat.now.wide before columns) (sym opened)
    c.each.invariant.may in
    subst (λ (run : ℕ). MayPrint (context_at doc run c.each.seat.wide before column)) (sym c.each.invariant.run)
    (subst (λ (wide : Option ℤ). MayPrint (context_at doc run wide before column)) (sym c.each.invariant.wide) may.0)

pub returns-clause-grows : goal.returns-clause-grows
returns-clause-grows c = c.each.invariant.grows
