use Rattle.pg_changes.proofs.Own.{none_own}
use Rattle.pg_changes.proofs.trying.try_number.Goals as goal

pub try_between-requires-clause-none : goal.try_between-requires-clause-none
try_between-requires-clause-none g c =
    none_own c.args.galley.now c.args.style.now c.args.number c.value_of-own.result c.stays_in_range.ensures
    c.value_of-own.ensures c.requires.none
