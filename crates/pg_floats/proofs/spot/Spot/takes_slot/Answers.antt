use Rattle.std.proofs.Common.{◌∙◌, ap, List}
use Rattle.pg_style.specs.declared.style.Class.{Class}
use Rattle.pg_floats.specs.Spots.{takes_in, takes_of}
use Rattle.pg_floats.proofs.Takes.{takes_are}
use Rattle.pg_floats.proofs.spot.Spot.takes_slot.Goals as goal

pub returns : goal.returns
returns c = c.takes_at.ensures
    ∙ (ap (λ (classes : List Class). takes_in (takes_of c.args.self) classes c.args.slot)
    c.classes_of.ensures.classes
    ∙ takes_are (takes_of c.args.self) c.args.style.now c.args.slot c.classes_of.ensures.range)
