use Rattle.pg_sources.specs.Document.{doc_of}
use Rattle.pg_moves.proofs.AllSteps.{on_reach}
use Rattle.pg_moves.proofs.opening.walk_place.Goals as goal

pub reach_is_the_greatest-requires : goal.reach_is_the_greatest-requires
reach_is_the_greatest-requires c = c.args.sources.now.in_range.blocks

pub returns-clause-reach : goal.returns-clause-reach
returns-clause-reach c = on_reach (λ walk. walk.reach) (doc_of c.args.sources.now) c.args.from c.walk_from.result
    c.reach_is_the_greatest.ensures c.requires.place c.walk_from.ensures.reach
