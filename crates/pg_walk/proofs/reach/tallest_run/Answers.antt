use Rattle.std.proofs.Common.{◌≡◌, ◌∙◌, ap, rules, w32, w64, to_z, of_z}
use Rattle.std.proofs.lemmas.Int.{to_z-of_z}
use Rattle.pg_rules.specs.Reach.{greatest_extra}
use Rattle.pg_style.specs.Values.{StyleValue}
use Rattle.pg_walk.proofs.Gives.{same_sum}
use Rattle.pg_walk.proofs.reach.tallest_run.Goals as goal

pub returns-clause-value : goal.returns-clause-value
returns-clause-value c =
    let style = c.args.style.now in
    let height : to_z w32 (of_z w32 c.style.inside.height) ≡ style.height =
    to_z-of_z w32 c.style.inside.height (record { sfits = search rules })
    ∙ ap (λ (s : StyleValue). s.height) c.style.view_is in
    let extra : to_z w32 (of_z w32 c.greatest_extra.result) ≡ greatest_extra style.runs =
    to_z-of_z w32 c.greatest_extra.result (record { sfits = search rules })
    ∙ (c.greatest_extra.ensures ∙ ap greatest_extra (c.as_slice.ensures.runs
    ∙ ap (λ (s : StyleValue). s.runs) c.style.view_is)) in
    let one = to_z-of_z w64 c.wide.result (record { sfits = search rules }) in
    let two = to_z-of_z w64 c.wide-2.result (record { sfits = search rules }) in
    to_z-of_z w64 c.plus.result (record { sfits = search rules })
    ∙ (c.plus.ensures.value
    ∙ same_sum _ _ _ _ (one ∙ (c.wide.ensures.value ∙ height)) (two ∙ (c.wide-2.ensures.value ∙ extra)))
