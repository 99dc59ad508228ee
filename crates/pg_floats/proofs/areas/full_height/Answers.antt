use Rattle.std.proofs.Common.{rules, ◌≡◌, ◌∙◌, ap, ℤ, ◌+ℤ◌, pos, List, refl, w32, w64}
use Rattle.std.proofs.lemmas.Int.{to_z-of_z}
use Rattle.std.specs.Prelude.{slice_get}
use Rattle.std.specs.Option.{option_map_or}
use Rattle.pg_style.specs.Values.{StyleValue}
use Rattle.pg_style.specs.declared.style.Run.{Run}
use Rattle.pg_floats.proofs.areas.full_height.Goals as goal

pub returns-clause-value : goal.returns-clause-value
returns-clause-value c =
    to_z-of_z w64 c.plus.result (record { sfits = search rules }) ∙ c.plus.ensures.value
    ∙ sum _ _ _ _
    (to_z-of_z w64 c.wide.result (record { sfits = search rules }) ∙ c.wide.ensures.value
    ∙ to_z-of_z w32 c.style.inside.height (record { sfits = search rules })
    ∙ ap (λ (style : StyleValue). style.height) c.style.view_is)
    (to_z-of_z w64 c.extra_of.result (record { sfits = search rules }) ∙ c.extra_of.ensures.value
    ∙ ap (λ (runs : List Run). option_map_or (λ (run : Run). run.extra) (slice_get runs c.args.run) (pos 0))
    (c.as_slice.ensures.runs ∙ ap (λ (style : StyleValue). style.runs) c.style.view_is))
  where
    sum : (a a' b b' : ℤ) → a ≡ a' → b ≡ b' → (a +ℤ b) ≡ (a' +ℤ b')
    sum a a' b b' p q = rw (p, q) refl
