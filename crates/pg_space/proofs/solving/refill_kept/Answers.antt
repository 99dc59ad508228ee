use Rattle.std.proofs.Common.{◌≡◌, ◌⊎◌, sym}
use Rattle.pg_list.specs.GalleyValue.{GalleyValue}
use Rattle.pg_rules.specs.Legal.{document}
use Rattle.law_space.specs.PageSpace.{page_meaning}
use Rattle.pg_style.specs.Values.{StyleValue}
use Rattle.pg_table.specs.Below.{IsRightBelow}
use Rattle.pg_table.specs.Label.{IsTable}
use Rattle.pg_space.proofs.Telling.{of_equal}
use Rattle.pg_space.proofs.solving.refill_kept.Goals as goal

pub refill_offered-requires : goal.refill_offered-requires
refill_offered-requires g c = of_equal (λ (galley : GalleyValue) (style : StyleValue).
    (c.args.below ≡ 0) ⊎ IsRightBelow (page_meaning (document galley style)) c.args.below c.args.table.now)
    _ _ _ _ (sym c.new-space.ensures.galley) (sym c.new-space.ensures.style) c.requires.right

pub returns-clause-table : goal.returns-clause-table
returns-clause-table g c = of_equal
    (λ (galley : GalleyValue) (style : StyleValue). IsTable (page_meaning (document galley style)) c.refill_offered.new.self)
    _ _ _ _ c.new-space.ensures.galley c.new-space.ensures.style c.in_ok-refill_offered.ensures.ok
