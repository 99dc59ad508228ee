-- The smallest galleys, worked out.
use Rattle.std.proofs.Common.{◌≡◌, refl, [], ◌∷◌, length}
use Rattle.std.specs.Prelude.{map}
use Rattle.pg_list.specs.Counts.{item_count}
use Rattle.pg_list.specs.declared.variants.Variant.{Variant}
use Rattle.pg_make.specs.Generated.{made_blocks, made_galley, made_inserts, made_float, made_note, made_variants}

none : (made_galley 0).blocks ≡ []
none = refl

thirty_items : item_count (made_blocks 1) ≡ 30
thirty_items = refl

ten_seven_and_thirteen : map (λ (variant : Variant). length variant.items) (made_variants 0) ≡ 10 ∷ 7 ∷ 13 ∷ []
ten_seven_and_thirteen = refl

a_float_in_the_fourth : made_inserts 3 ≡ made_float 0 ∷ []
a_float_in_the_fourth = refl

a_note_in_the_fifth : made_inserts 4 ≡ made_note ∷ []
a_note_in_the_fifth = refl

both_in_the_twenty_fifth : made_inserts 24 ≡ made_note ∷ made_float 0 ∷ []
both_in_the_twenty_fifth = refl
