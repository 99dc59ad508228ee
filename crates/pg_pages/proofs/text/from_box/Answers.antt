use Rattle.std.proofs.Common.{sym, ◌∙◌}
use Rattle.pg_pages.proofs.Printed.{box_next}
use Rattle.pg_pages.proofs.text.from_box.Goals as goal

pub front-preserved : goal.front-preserved
front-preserved c =
    box_next c.front.rest.now c.item-item.result _ c.in-len1-up.len_at_least c.item-item.is
    (sym c.item_is_box.ensures ∙ c.if-item_is_box.false) ∙ c.front.invariant
