use Rattle.std.proofs.Common.{refl}
use Rattle.pg_labelcheck.proofs.Passes.{first_there, index_few, states_pass}
use Rattle.pg_labelcheck.proofs.labels.test_states.Goals as goal

pub number_of-requires : goal.number_of-requires
number_of-requires c = index_few _ c.as_slice.result.now c.args.output.now.labels c.in-Some.index c.as_slice.ensures
    c.requires.few.labels (c.in-Some.ensures.some c.in-Some.index refl)

pub returns-in-None : goal.returns-in-None
returns-in-None c = states_pass _ _ c.args.output.now c.as_slice.result.now c.as_slice.ensures c.requires.before
    (c.in-None.ensures.none refl)

pub returns-in-Some : goal.returns-in-Some
returns-in-Some c = (
  c.requires.before,
  first_there _ c.as_slice.result.now c.args.output.now.labels c.in-Some.index c.number_of.result c.as_slice.ensures
      c.number_of.ensures (c.in-Some.ensures.some c.in-Some.index refl),
)
