use Rattle.std.proofs.Common.{◌∙◌, ap, List, length}
use Rattle.pg_style.specs.declared.style.Class.{Class}
use Rattle.pg_floats.specs.QueueValue.{late_by, table_in}
use Rattle.pg_floats.proofs.Queues.{late_is}
use Rattle.pg_floats.proofs.queue.late_in_queue.Goals as goal

pub returns-clause-value : goal.returns-clause-value
returns-clause-value c =
    c.first_late.ensures
    ∙ (ap (λ (classes : List Class). late_by
    (λ slot. length (table_in classes slot)) 0 c.args.waiting.now c.args.ages.now) c.classes_of.ensures.classes
    ∙ late_is c.args.style.now
    (record {
      placed = c.args.waiting.now;
      waiting = c.args.waiting.now;
      ages =
          c.args.ages.now;
    }) c.classes_of.ensures.range)
