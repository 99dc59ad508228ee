-- Badness by plain cubes, and glue that is rounded piece by piece, are other numbers.
use Rattle.std.proofs.Common.{◌≡◌, refl, ◌*◌, ◌/◌, [], ◌∷◌}
use Rattle.std.specs.Prelude.{pos}
use Rattle.pg_list.specs.Badness.{badness}
use Rattle.pg_list.specs.declared.item.Order.TheVariants.{Finite}
use Rattle.pg_glue.specs.declared.Elastic.{Elastic}
use Rattle.pg_glue.specs.declared.Sense.TheVariants.{Stretch}
use Rattle.pg_glue.specs.Widths.{set_widths}

-- a third of what is there is wanted
badness_of_a_third : badness (pos 1) (pos 3) ≡ 4
badness_of_a_third = refl

plain_cube_of_a_third : 100 * 1 * 1 * 1 / (3 * 3 * 3) ≡ 3
plain_cube_of_a_third = refl

abbrev one : Elastic
one = record { width = pos 0; order = Finite; amount = pos 1 }

-- one unit for three equal pieces of glue: one of them takes it, where each alone would round to the same
unit_for_three : set_widths (one ∷ one ∷ one ∷ []) (pos 1) Stretch ≡ pos 0 ∷ pos 0 ∷ pos 1 ∷ []
unit_for_three = refl
