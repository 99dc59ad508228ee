use Rattle.std.proofs.Common.{rules, ◌≡◌, ◌∙◌, refl, ap, ℤ, ◌+ℤ◌, List, w32}
use Rattle.std.proofs.lemmas.Int.{to_z-of_z}
use Rattle.std.specs.Prelude.{int_lt}
use Rattle.std.specs.List.{list_all}
use Rattle.pg_style.specs.Values.{StyleValue}
use Rattle.pg_style.specs.declared.style.Run.{Run}
use Rattle.pg_alone.proofs.alone.is_above_all.Goals as goal

pub returns : goal.returns
returns c =
    c.are_below.ensures
    ∙ same _ _ _ _ _ _
    (to_z-of_z w32 c.style.inside.height (record { sfits = search rules })
    ∙ ap (λ (style : StyleValue). style.height) c.style.view_is)
    (c.as_slice.ensures.runs ∙ ap (λ (style : StyleValue). style.runs) c.style.view_is)
    (to_z-of_z w32 c.args.size c.ranges.size)
  where
    same : (h h' : ℤ) (runs runs' : List Run) (z z' : ℤ) → h ≡ h' → runs ≡ runs' → z ≡ z' →
        list_all (λ (run : Run). int_lt (h +ℤ run.extra) z) runs ≡ list_all (λ (run : Run). int_lt (h' +ℤ run.extra) z') runs'
    same h h' runs runs' z z' p q r = rw (p, q, r) refl
