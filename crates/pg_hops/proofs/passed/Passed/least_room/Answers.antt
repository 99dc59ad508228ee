use Rattle.std.proofs.Common.{◌∙◌, ap, rules, w64}
use Rattle.std.proofs.lemmas.Int.{to_z-of_z}
use Rattle.pg_hops.specs.Needs.{least_by}
use Rattle.pg_hops.specs.View.{view}
use Rattle.pg_hops.proofs.passed.Passed.least_room.Goals as goal

pub returns-clause-value : goal.returns-clause-value
returns-clause-value c = to_z-of_z w64 c.least_with.result (record { sfits = search rules })
    ∙ (c.least_with.ensures.value
    ∙ ap (least_by (view c.args.self.now))
    (to_z-of_z w64 c.smallest.result (record { sfits = search rules }) ∙ c.smallest.ensures.value))
