use Rattle.std.proofs.Common.{◌∙◌, ap, pos, List}
use Rattle.pg_list.specs.declared.blocks.Block.{Block}
use Rattle.pg_judge.specs.Picks.{pick_cost}
use Rattle.pg_judge.proofs.PickCosts.{costs_are}
use Rattle.pg_list.specs.Flat.{blocks_at}
use Rattle.pg_judge.proofs.picks.pick_demerits.Goals as goal

pub returns-clause-value : goal.returns-clause-value
returns-clause-value c = ap pos (c.cost_along.ensures.value
    ∙ ap (λ (blocks : List Block). pick_cost blocks c.args.picks.now) c.blocks_from.ensures.blocks)
    ∙ costs_are (blocks_at c.args.galley.now.blocks c.args.from) c.args.picks.now
