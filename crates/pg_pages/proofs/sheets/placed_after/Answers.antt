use Rattle.std.proofs.Common.{refl, sym, ap, subst, ◌∙◌, List, ℕ}
use Rattle.pg_rules.specs.Floats.{plus_counts}
use Rattle.pg_pages.specs.Printed.{FitTogether}
use Rattle.pg_pages.proofs.Shown.{fit_as}
use Rattle.pg_pages.proofs.TextColumn.{plus_is}
use Rattle.pg_pages.proofs.sheets.placed_after.Goals as goal

pub added-requires : goal.added-requires
added-requires c = fit_as _ _ _ _ refl c.as_slice.ensures c.requires.tops

pub added-requires-2 : goal.added-requires-2
added-requires-2 c =
    let below = c.as_slice-2.ensures ∙ plus_is c.args.style.now c.args.before.now _ _ c.args.slots c.requires.slots
    c.as_slice.ensures _ c.in_ok-below.ensures in
    subst (λ (counts : List ℕ). FitTogether counts c.as_slice-3.result.now) (sym below)
    (subst (λ (counts : List ℕ). FitTogether (plus_counts c.args.style.now c.args.before.now c.args.column.now.top) counts)
    (sym c.as_slice-3.ensures) c.requires.bottoms)

pub returns : goal.returns
returns c =
    let below = c.as_slice-2.ensures ∙ plus_is c.args.style.now c.args.before.now _ _ c.args.slots c.requires.slots
    c.as_slice.ensures _ c.in_ok-below.ensures in
    plus_is c.args.style.now c.as_slice-2.result.now _ _ c.args.slots c.requires.slots c.as_slice-3.ensures _
    c.in_ok-placed.ensures ∙ ap (λ (counts : List ℕ). plus_counts c.args.style.now counts c.args.column.now.bottom) below
