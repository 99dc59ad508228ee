-- Known set widths.
use Rattle.std.proofs.Common.{◌≡◌, refl, pos, negsuc, [], ◌∷◌}
use Rattle.pg_list.specs.declared.item.Order.TheVariants.{Finite, Fil}
use Rattle.pg_glue.specs.declared.Elastic.{Elastic}
use Rattle.pg_glue.specs.declared.Sense.TheVariants.{Stretch, Shrink}
use Rattle.pg_glue.specs.Widths.{set_widths}

-- no width, and one point of finite amount
abbrev pub one_point : Elastic
one_point = record { width = pos 0; order = Finite; amount = pos 65536 }

abbrev pub one_fil : Elastic
one_fil = record { width = pos 10; order = Fil; amount = pos 65536 }

-- of three equal glues the last has the one unit
one_unit_sets : set_widths (one_point ∷ one_point ∷ one_point ∷ []) (pos 1) Stretch ≡ pos 0 ∷ pos 0 ∷ pos 1 ∷ []
one_unit_sets = refl

-- and the last two have two units
two_units_set : set_widths (one_point ∷ one_point ∷ one_point ∷ []) (pos 2) Stretch ≡ pos 0 ∷ pos 1 ∷ pos 1 ∷ []
two_units_set = refl

one_unit_shrinks : set_widths (one_point ∷ one_point ∷ one_point ∷ []) (pos 1) Shrink ≡ pos 0 ∷ pos 0 ∷ negsuc 0 ∷ []
one_unit_shrinks = refl

-- beside an infinite amount a finite one has nothing
fil_takes_all : set_widths (one_point ∷ one_fil ∷ one_point ∷ []) (pos 5) Stretch ≡ pos 0 ∷ pos 15 ∷ pos 0 ∷ []
fil_takes_all = refl

-- where nothing can change, nothing does
none_sets : set_widths (record { width = pos 7; order = Finite; amount = pos 0 } ∷ []) (pos 5) Stretch ≡ pos 7 ∷ []
none_sets = refl
