use Rattle.pg_walk.proofs.walking.candidates.Goals as goal

pub collect_from-requires-clause-context : goal.collect_from-requires-clause-context
collect_from-requires-clause-context c = c.empty-index.ensures c.args.galley.now.blocks c.args.style.now.maxdepth
