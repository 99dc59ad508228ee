use Rattle.pg_furthest.proofs.Furthest.{begins, furthest, some_label}
use Rattle.pg_furthest.proofs.laws.beginnings_of_labels.Goals as goal

pub returns-clause-some : goal.returns-clause-some
returns-clause-some c labels table = some_label c.args.galley.now c.args.style.now c.requires labels table

pub returns-clause-furthest : goal.returns-clause-furthest
returns-clause-furthest c labels at table last =
    furthest c.args.galley.now c.args.style.now c.requires labels table at last

pub returns-clause-begins : goal.returns-clause-begins
returns-clause-begins c labels at moves table of =
    begins c.args.galley.now c.args.style.now c.requires labels table at moves of
