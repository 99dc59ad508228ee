use Rattle.pg_sources.proofs.sources.Sources.count_flushed.Goals as goal

pub returns-clause-value : goal.returns-clause-value
returns-clause-value c = c.flushed.ensures.value c.args.self.now.style.now c.args.self.now.list.floats
