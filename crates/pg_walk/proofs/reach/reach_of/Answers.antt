use Rattle.pg_walk.proofs.reach.reach_of.Goals as goal

pub reach_by-requires-clause-hops : goal.reach_by-requires-clause-hops
reach_by-requires-clause-hops c = c.empty-index.ensures c.args.galley.now.blocks c.args.style.now.maxdepth
