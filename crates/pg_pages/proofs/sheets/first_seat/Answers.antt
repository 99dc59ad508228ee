use Rattle.std.proofs.Common.{ap, ◌∙◌, List, ℕ, length, refl}
use Rattle.pg_rules.specs.Floats.{plus_counts}
use Rattle.pg_pages.proofs.Shown.{fit_as}
use Rattle.pg_rules.specs.Legal.{document}
use Rattle.pg_pages.proofs.TextColumn.{bodies_long, plus_is}
use Rattle.pg_pages.proofs.sheets.first_seat.Goals as goal

pub added-requires : goal.added-requires
added-requires c = fit_as _ _ _ _ c.as_slice.ensures c.as_slice-2.ensures c.requires.fit

pub returns-clause-before : goal.returns-clause-before
returns-clause-before c =
    plus_is c.args.matter.now.style.now c.as_slice.result.now _ _ (length c.args.matter.now.bodies.now)
    (bodies_long (document c.args.matter.now.galley.now c.args.matter.now.style.now) _ c.args.matter.now.bodies.now
    c.requires.bodies) c.as_slice-2.ensures _
    c.in_ok-before.ensures
    ∙ ap (λ (counts : List ℕ). plus_counts c.args.matter.now.style.now counts c.args.page.now.wide) c.as_slice.ensures

pub made_wide-requires : goal.made_wide-requires
made_wide-requires c = c.requires.wide

pub returns-clause-run : goal.returns-clause-run
returns-clause-run c = refl

pub returns-clause-wide : goal.returns-clause-wide
returns-clause-wide c = c.made_wide.ensures c.args.matter.now.galley.now.blocks c.requires.floats
