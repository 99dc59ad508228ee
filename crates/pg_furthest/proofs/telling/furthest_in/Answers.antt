use Rattle.pg_furthest.proofs.telling.furthest_in.Goals as goal

pub last_of-requires : goal.last_of-requires
last_of-requires c = c.beginnings_of_labels.ensures.some c.args.labels.now c.requires.filled

pub returns-clause-furthest : goal.returns-clause-furthest
returns-clause-furthest c = c.beginnings_of_labels.ensures.furthest c.args.labels.now c.last_of.result
    c.requires.filled c.last_of.ensures.last
