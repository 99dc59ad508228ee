use Rattle.std.proofs.Common.{◌∙◌, ap, List}
use Rattle.pg_style.specs.declared.style.Class.{Class}
use Rattle.pg_floats.specs.Spots.{slots_in}
use Rattle.pg_floats.proofs.Queues.{the_count_is}
use Rattle.pg_floats.proofs.spot.slots_of.Goals as goal

pub returns-clause-value : goal.returns-clause-value
returns-clause-value c =
    c.slots_among.ensures.value
    ∙ (ap (λ (classes : List Class). slots_in classes) c.classes_of.ensures.classes
    ∙ the_count_is c.args.style.now c.classes_of.ensures.range)
