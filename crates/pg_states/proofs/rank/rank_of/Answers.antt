use Rattle.std.proofs.Common.{◌∙◌}
use Rattle.pg_states.proofs.Sums.{same_below, same_rank}
use Rattle.pg_states.proofs.rank.rank_of.Goals as goal

pub joined-requires : goal.joined-requires
joined-requires c = same_below c.place_rank.result c.count_placed-placed.result c.rest_rank.result _ _ _ _
    c.place_rank.ensures c.count_placed-placed.ensures c.rest_rank.ensures
    (c.ranks_fit.ensures c.args.state.now c.requires)

pub returns : goal.returns
returns c = c.joined.ensures
    ∙ same_rank c.place_rank.result c.count_placed-placed.result c.rest_rank.result _ _ _ _
    c.place_rank.ensures c.count_placed-placed.ensures c.rest_rank.ensures
