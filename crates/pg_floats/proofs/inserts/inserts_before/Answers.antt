use Rattle.std.proofs.lemmas.List.{take_rest}
use Rattle.pg_floats.proofs.Places.{within_is}
use Rattle.pg_floats.proofs.inserts.inserts_before.Goals as goal

pub returns-clause-value : goal.returns-clause-value
returns-clause-value c = λ blocks number same.
    within_is number blocks c.args.place c.args.places.now _ c.count_before-first.result c.count_before.result same
    (take_rest c.args.places.now c.count_before-first.result) c.count_before-first.ensures.within
    c.count_before-first.ensures.point c.count_before.ensures.within c.count_before.ensures.point
