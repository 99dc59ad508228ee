use Rattle.pg_sources.proofs.sources.Sources.counts_at.Goals as goal

pub returns-then-slots-eq0 : goal.returns-then-slots-eq0
returns-then-slots-eq0 c = c.no_counts.ensures c.args.from
