use Rattle.std.proofs.Common.{sym}
use Rattle.pg_list.specs.GalleyValue.{GalleyValue}
use Rattle.pg_rules.specs.Legal.{document}
use Rattle.pg_space.proofs.Telling.{of_equal}
use Rattle.law_space.specs.PageSpace.{page_meaning}
use Rattle.pg_style.specs.Values.{StyleValue}
use Rattle.pg_table.specs.Label.{IsTable}
use Rattle.pg_furthest.specs.Pages.{TellsBest}
use Rattle.pg_furthest.proofs.best.best_in.Goals as goal

pub best_of-requires : goal.best_of-requires
best_of-requires c = of_equal (λ (galley : GalleyValue) (style : StyleValue).
    IsTable (page_meaning (document galley style)) c.args.table.now) _ _ _ _
    (sym c.new-space.ensures.galley) (sym c.new-space.ensures.style) c.requires.filled

pub returns : goal.returns
returns c = of_equal (λ (galley : GalleyValue) (style : StyleValue).
    TellsBest galley style c.args.table.now c.best_of.result) _ _ _ _
    c.new-space.ensures.galley c.new-space.ensures.style c.best_of.ensures
