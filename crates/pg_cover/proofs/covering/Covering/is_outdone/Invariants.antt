use Rattle.pg_cover.proofs.covering.Covering.is_outdone.Given as goal

abbrev pub decreases-chain : goal.decreases-chain
decreases-chain g l = l.number
