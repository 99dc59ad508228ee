use Rattle.std.proofs.Common.{rules, sym, ap, ◌∙◌, ℤ, Some, w64, true, false}
use Rattle.std.proofs.lemmas.Int.{to_z-of_z}
use Rattle.pg_pages.specs.Sheets.{is_any}
use Rattle.pg_pages.proofs.SheetText.{made_is}
use Rattle.pg_pages.proofs.sheets.made_wide.Goals as goal

pub returns-then-deals_any : goal.returns-then-deals_any
returns-then-deals_any c = λ blocks are.
    ap (λ (z : ℤ). Some z) (to_z-of_z w64 c.wide_area.result (record { sfits = search rules })
    ∙ c.wide_area.ensures blocks c.args.style.now are)
    ∙ made_is (record { blocks = blocks; style = c.args.style.now }) c.args.placed.now c.args.counts.now true c.requires
    (sym c.if-deals_any.true ∙ c.deals_any.ensures ∙ ap is_any c.as_slice.ensures)

pub returns-else-deals_any : goal.returns-else-deals_any
returns-else-deals_any c = λ blocks are.
    made_is (record { blocks = blocks; style = c.args.style.now }) c.args.placed.now c.args.counts.now false c.requires
    (sym c.if-deals_any.false ∙ c.deals_any.ensures ∙ ap is_any c.as_slice.ensures)
