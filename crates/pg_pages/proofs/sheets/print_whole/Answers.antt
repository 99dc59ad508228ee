use Rattle.std.proofs.Common.{rules, sym, ap, ◌∙◌, ◌≡◌, ◌++◌, [], List, ℕ, ℤ, length, w32, w64, to_z, of_z, subst}
use Rattle.std.specs.Int.{w128}
use Rattle.std.proofs.lemmas.Int.{to_z-of_z}
use Rattle.pg_list.specs.declared.blocks.Block.{Block}
use Rattle.pg_plan.specs.declared.pages.Page.{Page}
use Rattle.pg_style.specs.Values.{StyleValue}
use Rattle.pg_style.specs.declared.style.Class.{Class}
use Rattle.pg_rules.specs.History.{placed_of}
use Rattle.pg_rules.specs.Legal.{document}
use Rattle.pg_pages.specs.PageText.{head_line, page_text}
use Rattle.pg_pages.specs.Printed.{bodies_of, lent}
use Rattle.pg_pages.specs.Sheets.{sheets_text, MaySheets}
use Rattle.pg_pages.proofs.ColumnText.{bodies_are}
use Rattle.pg_pages.proofs.Grown.{grows_on, grows_same, on_ok, on_same, two_parts}
use Rattle.pg_pages.proofs.Whole.{page_text_is}
use Rattle.pg_pages.proofs.sheets.print_whole.Goals as goal

pub print_sheets-requires-clause-bodies : goal.print_sheets-requires-clause-bodies
print_sheets-requires-clause-bodies c =
    let doc = document c.args.galley.now c.args.style.now in
    let classes : c.style.inside.classes ≡ c.args.style.now.classes =
    ap (λ (style : StyleValue). style.classes) c.style.view_is in
    ap lent c.as_slice-2.ensures.value ∙ c.in_ok-bodies.ensures
    ∙ ap (λ (blocks : List Block). bodies_of blocks c.as_slice.result.now) c.blocks_of.ensures.blocks
    ∙ ap (λ (classes : List Class). bodies_of c.args.galley.now.blocks classes) (c.as_slice.ensures.classes ∙ classes)
    ∙ bodies_are doc c.stays_in_range.ensures.classes_in

pub returns-clause-ok : goal.returns-clause-ok
returns-clause-ok c =
    let doc = document c.args.galley.now c.args.style.now in
    let old = c.args.out.now.items in
    let mid = c.print_head.new.out.items in
    let cost = to_z-of_z w128 c.args.cost (record { sfits = c.ranges.cost.sfits }) in
    let width = to_z-of_z w64 c.from.result (record { sfits = search rules }) ∙ c.from.ensures
    ∙ to_z-of_z w32 c.width.result (record { sfits = search rules }) ∙ c.width.ensures.width in
    let headed = c.in_ok-print_head.ensures.ok
    ∙ ap (λ (n : ℕ). old ++ head_line n (to_z w128 (of_z w128 c.args.cost)) (to_z w64 (of_z w64 c.from.result)))
    (ap length c.as_slice-pages.ensures)
    ∙ ap (λ (z : ℤ). old ++ head_line (length c.args.plan.now.pages) z (to_z w64 (of_z w64 c.from.result))) cost
    ∙ ap (λ (z : ℤ). old ++ head_line (length c.args.plan.now.pages) c.args.cost z) width in
    on_same c.print_sheets.result old c.print_sheets.new.out.items
    (head_line (length c.args.plan.now.pages) c.args.cost c.args.galley.now.width
    ++ sheets_text doc 1 (placed_of c.args.style.now []) c.args.plan.now.pages)
    (page_text c.args.galley.now c.args.style.now c.args.plan.now c.args.cost)
    (sym (page_text_is c.args.galley.now c.args.style.now c.args.plan.now c.args.cost c.requires.filled))
    (on_ok c.print_sheets.result _ _
    (λ printed. two_parts old mid c.print_sheets.new.out.items
    (head_line (length c.args.plan.now.pages) c.args.cost c.args.galley.now.width)
    (sheets_text doc 1 (placed_of c.args.style.now []) c.args.plan.now.pages) headed
    (printed ∙ ap (λ (pages : List Page). mid ++ sheets_text doc 1 (placed_of c.args.style.now []) pages)
    c.as_slice-pages.ensures))
    c.print_sheets.ensures.ok)

pub print_sheets-requires-clause-floats : goal.print_sheets-requires-clause-floats
print_sheets-requires-clause-floats c = c.requires.floats

pub print_sheets-requires-clause-may : goal.print_sheets-requires-clause-may
print_sheets-requires-clause-may c =
    subst (MaySheets (document c.args.galley.now c.args.style.now) (placed_of c.args.style.now []))
    (sym c.as_slice-pages.ensures) c.requires.may

pub returns-in_err-bodies-clause-grows : goal.returns-in_err-bodies-clause-grows
returns-in_err-bodies-clause-grows c = grows_same c.args.out.now.items

pub returns-in_err-print_head-clause-grows : goal.returns-in_err-print_head-clause-grows
returns-in_err-print_head-clause-grows c = c.print_head.ensures.grows

pub returns-clause-grows : goal.returns-clause-grows
returns-clause-grows c = grows_on c.args.out.now.items c.print_head.new.out.items c.print_sheets.new.out.items
    c.in_ok-print_head.ensures.grows c.print_sheets.ensures.grows
