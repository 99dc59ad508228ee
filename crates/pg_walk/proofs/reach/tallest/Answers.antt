use Rattle.std.proofs.Common.{◌∙◌, rules, w64}
use Rattle.std.proofs.lemmas.Int.{to_z-of_z}
use Rattle.pg_walk.proofs.Gives.{same_sum}
use Rattle.pg_walk.proofs.reach.tallest.Goals as goal

pub returns : goal.returns
returns c =
    let run = to_z-of_z w64 c.tallest_run.result (record { sfits = search rules }) in
    let shrink = to_z-of_z w64 c.greatest_shrink.result (record { sfits = search rules }) in
    to_z-of_z w64 c.plus.result (record { sfits = search rules })
    ∙ (c.plus.ensures.value
    ∙ same_sum _ _ _ _ (run ∙ c.tallest_run.ensures.value) (shrink ∙ c.greatest_shrink.ensures.value))
