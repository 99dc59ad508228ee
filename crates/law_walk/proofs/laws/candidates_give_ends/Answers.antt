use Rattle.law_walk.proofs.Contracts.{give_ends, serve_rooms}
use Rattle.law_walk.proofs.Covering.{fewer_suffice}
use Rattle.law_walk.proofs.laws.candidates_give_ends.Goals as goal

pub returns-clause-one : goal.returns-clause-one
returns-clause-one c = give_ends _ c.requires.blocks c.requires.ranges

pub returns-clause-each : goal.returns-clause-each
returns-clause-each c = serve_rooms _ c.requires.blocks c.requires.ranges

pub returns-clause-fewer : goal.returns-clause-fewer
returns-clause-fewer c = fewer_suffice _
