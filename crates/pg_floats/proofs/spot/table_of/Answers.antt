use Rattle.std.proofs.Common.{◌∙◌, ap, List}
use Rattle.pg_style.specs.declared.style.Class.{Class}
use Rattle.pg_floats.specs.QueueValue.{table_in}
use Rattle.pg_floats.proofs.Queues.{tables_are}
use Rattle.pg_floats.proofs.spot.table_of.Goals as goal

pub returns : goal.returns
returns c =
    c.table_in_slot.ensures.table
    ∙ (ap (λ (classes : List Class). table_in classes c.args.slot) c.classes_of.ensures.classes
    ∙ tables_are c.args.style.now c.args.slot c.classes_of.ensures.range)
