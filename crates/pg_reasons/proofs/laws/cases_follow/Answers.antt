use Rattle.pg_reasons.proofs.Cases.{cases, followers}
use Rattle.pg_reasons.proofs.laws.cases_follow.Goals as goal

pub returns-clause-follow : goal.returns-clause-follow
returns-clause-follow c = cases c.args.galley.now c.args.style.now

pub returns-clause-cases : goal.returns-clause-cases
returns-clause-cases c = followers c.args.galley.now c.args.style.now
