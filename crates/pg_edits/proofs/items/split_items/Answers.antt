use Rattle.std.proofs.Common.{ap, refl, sym, ◌∙◌, []}
use Rattle.pg_scan.specs.Lines.{raw_lines}
use Rattle.pg_edits.proofs.ItemLines.{cut_next, cut_nowhere, front_is, items_cut}
use Rattle.pg_edits.proofs.items.split_items.Goals as goal

pub items-init : goal.items-init
items-init c = ([], cut_nowhere c.args.text.now)

pub items-preserved : goal.items-preserved
items-preserved c = cut_next (λ t. t.now) c.args.text.now c.items.rest.now c.items.count c.split_part.result.0.now
    c.split_part.result.1 _ c.unwrap_or-rest.result c.items.invariant (sym c.has_point.ensures ∙ c.items-test.true)
    c.split_part.ensures.parts c.unwrap_or-rest.ensures refl

pub returns-clause-items : goal.returns-clause-items
returns-clause-items c =
    let cut = c.items.invariant.1 in
    items_cut c.args.text.now c.items.invariant.0 c.items.rest.now c.items.count cut
    (sym c.has_point.ensures ∙ c.items-test.false)
    ∙ ap raw_lines (sym (front_is c.args.text.now c.items.invariant.0 c.items.rest.now c.items.count cut))
