use Rattle.std.proofs.Common.{IfOk, sym}
use Rattle.pg_list.specs.GalleyValue.{GalleyValue}
use Rattle.pg_rules.specs.Legal.{document}
use Rattle.pg_space.specs.Solves.{Solves}
use Rattle.pg_space.proofs.Telling.{of_equal}
use Rattle.law_space.specs.PageSpace.{page_meaning}
use Rattle.pg_style.specs.Values.{StyleValue}
use Rattle.pg_table.specs.Label.{IsTable}
use Rattle.pg_session.proofs.solving.tell.Goals as goal

pub outcome_of-requires : goal.outcome_of-requires
outcome_of-requires c = of_equal (λ (galley : GalleyValue) (style : StyleValue).
    IsTable (page_meaning (document galley style)) c.args.kept.now.table) _ _ _ _
    (sym c.new-space.ensures.galley) (sym c.new-space.ensures.style) c.requires.filled

pub returns : goal.returns
returns c = of_equal (λ (galley : GalleyValue) (style : StyleValue). IfOk c.outcome_of.result (Solves galley style))
    _ _ _ _ c.new-space.ensures.galley c.new-space.ensures.style c.outcome_of.ensures
