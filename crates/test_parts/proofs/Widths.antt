-- Set widths of each order and sense, worked by hand. 1 is one scaled unit.
use Rattle.std.proofs.Common.{refl, ℤ, pos, negsuc, [], ◌∷◌}
use Rattle.pg_list.specs.declared.item.Order.{Order}
use Rattle.pg_list.specs.declared.item.Order.TheVariants.{Finite, Fil, Fill, Filll}
use Rattle.pg_glue.specs.declared.Elastic.{Elastic}
use Rattle.pg_glue.specs.declared.Sense.TheVariants.{Stretch, Shrink}
use Rattle.pg_glue.specs.Widths.{set_widths}
use Rattle.test_parts.proofs.Cases.{AreTold, points}

abbrev glue : ℤ → ℤ → Order → Elastic
glue width amount order = record { width = width; order = order; amount = amount }

-- each order and sense
widths : AreTold (
    (set_widths (glue (points 0) (points 1) Finite ∷ glue (points 0) (points 1) Finite ∷ glue (points 0) (points 1) Finite ∷ []) (pos 1) Stretch, points 0 ∷ points 0 ∷ pos 1 ∷ [])
    ∷ (set_widths (glue (points 0) (points 1) Finite ∷ glue (points 0) (points 1) Finite ∷ glue (points 0) (points 1) Finite ∷ []) (pos 2) Stretch, points 0 ∷ pos 1 ∷ pos 1 ∷ [])
    ∷ (set_widths (glue (points 3) (points 1) Finite ∷ glue (points 3) (points 1) Finite ∷ glue (points 3) (points 1) Finite ∷ []) (points 12) Stretch, points 7 ∷ points 7 ∷ points 7 ∷ [])
    ∷ (set_widths (glue (points 3) (points 1) Fil ∷ []) (points 12) Stretch, points 15 ∷ [])
    ∷ (set_widths (glue (points 3) (points 0) Finite ∷ glue (points 3) (points 0) Finite ∷ []) (points 12) Stretch, points 3 ∷ points 3 ∷ [])
    ∷ (set_widths (glue (points 3) (points 1) Finite ∷ glue (points 0) (points 1) Fil ∷ glue (points 2) (points 1) Fil ∷ []) (points 5) Stretch, points 3 ∷ pos 163840 ∷ pos 294912 ∷ [])
    ∷ (set_widths (glue (points 3) (points 1) Filll ∷ glue (points 0) (points 1) Fil ∷ glue (points 2) (points 1) Fill ∷ []) (points 5) Stretch, points 8 ∷ points 0 ∷ points 2 ∷ [])
    ∷ (set_widths (glue (points 1) (points 1) Fil ∷ glue (points 1) (negsuc 65535) Fil ∷ glue (points 1) (points 2) Finite ∷ []) (points 4) Stretch, points 1 ∷ points 1 ∷ points 5 ∷ [])
    ∷ (set_widths (glue (points 1) (negsuc 65535) Finite ∷ []) (points 4) Stretch, points 1 ∷ [])
    ∷ (set_widths (glue (points 1) (negsuc 65535) Finite ∷ glue (points 1) (points 2) Finite ∷ []) (points 1) Stretch, points 0 ∷ points 3 ∷ [])
    ∷ (set_widths (glue (points 3) (points 1) Finite ∷ []) (points 0) Stretch, points 3 ∷ [])
    ∷ (set_widths (glue (points 3) (points 1) Finite ∷ glue (points 6) (points 2) Finite ∷ []) (pos 98304) Shrink, pos 163840 ∷ points 5 ∷ [])
    ∷ (set_widths (glue (points 0) (points 1) Finite ∷ glue (points 0) (points 1) Finite ∷ []) (pos 1) Shrink, points 0 ∷ negsuc 0 ∷ [])
    ∷ [])
widths = refl
