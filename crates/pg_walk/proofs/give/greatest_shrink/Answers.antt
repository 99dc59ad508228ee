use Rattle.std.proofs.Common.{◌≡◌, ◌∙◌, ap, rules, w64, ℤ, ◌+ℤ◌, to_z, of_z}
use Rattle.std.proofs.lemmas.Int.{to_z-of_z}
use Rattle.pg_style.specs.Values.{StyleValue}
use Rattle.pg_walk.proofs.Gives.{all_gives}
use Rattle.pg_walk.proofs.give.greatest_shrink.Goals as goal

pub returns-clause-value : goal.returns-clause-value
returns-clause-value c =
    let x = c.areas_give-areas.result.shrink in
    let y = c.skips_give-skips.result.shrink in
    let one : to_z w64 (of_z w64 x) ≡ x = to_z-of_z w64 x (record { sfits = search rules }) in
    let two : to_z w64 (of_z w64 y) ≡ y = to_z-of_z w64 y (record { sfits = search rules }) in
    to_z-of_z w64 c.plus.result (record { sfits = search rules })
    ∙ (c.plus.ensures.value ∙ (ap (λ (z : ℤ). z +ℤ to_z w64 (of_z w64 y)) one ∙ (ap (λ (z : ℤ). x +ℤ z) two
    ∙ all_gives c.args.style.now x y c.areas_give-areas.ensures.shrink c.as_slice.result.now (c.as_slice.ensures.classes
    ∙ ap (λ (s : StyleValue). s.classes) c.style.view_is) c.skips_give-skips.ensures.shrink)))
