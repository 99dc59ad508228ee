use Rattle.std.proofs.Common.{arith, sym, ap, subst, ◌∙◌, ◌≡◌, ◌++◌, ◌+◌, ◌-◌, ◌∷◌, [], List, ℕ, take, drop, length, append-nil, append_assoc}
use Rattle.pg_lemmas.proofs.Lists.{no_items}
use Rattle.pg_plan.specs.declared.pages.Page.{Page}
use Rattle.pg_rules.specs.Legal.{document}
use Rattle.pg_pages.specs.Sheets.{MaySheets, sheet_behind, sheet_text, sheets_text}
use Rattle.pg_pages.proofs.Printed.{split_first}
use Rattle.pg_pages.proofs.SheetText.{none_placed}
use Rattle.pg_pages.proofs.Grown.{grown, grows_on}
use Rattle.pg_pages.proofs.TextColumn.{bodies_long}
use Rattle.pg_pages.proofs.sheets.print_sheets.Goals as goal

pub each-init : goal.each-init
each-init c =
    let doc = document c.args.matter.now.galley.now c.args.matter.now.style.now in
    let none = none_placed c.args.matter.now.style.now (length c.args.matter.now.bodies.now)
    (bodies_long doc _ c.args.matter.now.bodies.now c.requires.bodies) _ c.in_ok-placed.ensures in
    record {
      text = ap (λ (placed : List ℕ). c.args.out.now.items ++ sheets_text doc 1 placed c.args.pages.now) none;
      may = subst (λ (placed : List ℕ). MaySheets doc placed c.args.pages.now) (sym none) c.requires.may;
      number = omega arith;
      grows = grown c.args.out.now.items [] c.args.out.now.items (sym (append-nil c.args.out.now.items));
    }

pub each-preserved : goal.each-preserved
each-preserved c =
    let doc = document c.args.matter.now.galley.now c.args.matter.now.style.now in
    let rest = c.each.rest.now in
    let page = c.page-item.result in
    let after = take (length rest - 1) (drop 1 rest) in
    let opened : page ∷ after ≡ rest = split_first rest page _ c.in-len1-up.len_at_least c.page-item.is in
    let placed = c.each.placed in
    let next = c.in_ok-placed-2.ensures.placed in
    let here = sheet_text doc c.each.number placed page in
    let behind = sheet_behind c.args.matter.now.style.now placed page in
    let long = ap length opened in
    record {
      text = ap (λ (counts : List ℕ). c.print_sheet.new.out.items ++ sheets_text doc (c.each.number + 1) counts after) next
          ∙ ap (λ (front : List ℕ). front ++ sheets_text doc (c.each.number + 1) behind after)
          c.in_ok-placed-2.ensures.ok
          ∙ append_assoc c.each.out.items here (sheets_text doc (c.each.number + 1) behind after)
          ∙ ap (λ (pages : List Page). c.each.out.items ++ sheets_text doc c.each.number placed pages) opened
          ∙ c.each.invariant.text;
      may = subst (λ (counts : List ℕ). MaySheets doc counts after) (sym next)
          (subst (λ (pages : List Page). MaySheets doc placed pages) (sym opened) c.each.invariant.may).1;
      number = omega (arith, long, c.each.invariant.number);
      grows = grows_on c.args.out.now.items c.each.out.items c.print_sheet.new.out.items c.each.invariant.grows
          c.in_ok-placed-2.ensures.grows;
    }

pub print_sheet-requires-clause-may : goal.print_sheet-requires-clause-may
print_sheet-requires-clause-may c =
    let doc = document c.args.matter.now.galley.now c.args.matter.now.style.now in
    let rest = c.each.rest.now in
    let opened = split_first rest c.page-item.result _ c.in-len1-up.len_at_least c.page-item.is in
    (subst (λ (pages : List Page). MaySheets doc c.each.placed pages) (sym opened) c.each.invariant.may).0

pub print_sheet-requires-clause-floats : goal.print_sheet-requires-clause-floats
print_sheet-requires-clause-floats c = c.requires.floats

pub print_sheet-requires-clause-bodies : goal.print_sheet-requires-clause-bodies
print_sheet-requires-clause-bodies c = c.requires.bodies

pub returns-in_err-placed-clause-grows : goal.returns-in_err-placed-clause-grows
returns-in_err-placed-clause-grows c = grown c.args.out.now.items [] c.args.out.now.items
    (sym (append-nil c.args.out.now.items))

pub returns-in_err-placed-2-clause-grows : goal.returns-in_err-placed-2-clause-grows
returns-in_err-placed-2-clause-grows c = grows_on c.args.out.now.items c.each.out.items
    c.print_sheet.new.out.items c.each.invariant.grows c.print_sheet.ensures.grows

pub returns-clause-ok : goal.returns-clause-ok
returns-clause-ok c =
    let doc = document c.args.matter.now.galley.now c.args.matter.now.style.now in
    let none : c.each.rest.now ≡ [] = no_items c.each.rest.now (omega (arith, c.in_default.len_below)) in
    sym (append-nil c.each.out.items)
    ∙ ap (λ (pages : List Page). c.each.out.items ++ sheets_text doc c.each.number c.each.placed pages) (sym none)
    ∙ c.each.invariant.text
