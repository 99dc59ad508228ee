use Rattle.pg_cover.proofs.cover.chain_covers.Given as goal

abbrev pub decreases-chain : goal.decreases-chain
decreases-chain g l = l.number
