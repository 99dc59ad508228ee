-- Glue gives way in finite order alone.
use Rattle.std.proofs.Common.{◌≡◌, refl, ap, ◌∙◌, arith, List, [], ◌∷◌, Bool, false, ℤ, pos, ◌+ℤ◌}
use Rattle.std.specs.Prelude.{if◌then◌else◌}
use Rattle.std.specs.List.{flat_map}
use Rattle.std.proofs.lemmas.Int.{ints}
use Rattle.pg_list.specs.declared.item.Item.{Item}
use Rattle.pg_list.specs.declared.item.Item.TheVariants.{BoxItem, Rule, Glue, Kern, Penalty, Insert, Carry}
use Rattle.pg_list.specs.declared.item.Order.{Order}
use Rattle.pg_list.specs.declared.item.Order.TheVariants.{Finite, Fil, Fill, Filll}
use Rattle.pg_list.specs.Totals.{is_same_order, shrink}
use Rattle.pg_glue.specs.declared.Sense.TheVariants.{Shrink}
use Rattle.pg_glue.specs.Widths.{amounts, chosen}
use Rattle.pg_pages.specs.SetGlue.{elastic}

nothing_more : (z : ℤ) → z ≡ pos 0 +ℤ z
nothing_more z = omega (arith, ints)

none_infinite : (order : Order) → is_same_order order Finite ≡ false → (items : List Item) →
    amounts order (flat_map (elastic Shrink) items) ≡ pos 0
none_infinite order other [] = refl
none_infinite order other (Glue width stretch kind shrink body ∷ items) =
    ap (λ (b : Bool). (if b then shrink else pos 0) +ℤ amounts order (flat_map (elastic Shrink) items)) other
    ∙ ap (λ (z : ℤ). pos 0 +ℤ z) (none_infinite order other items)
none_infinite order other (BoxItem height depth body ∷ items) = none_infinite order other items
none_infinite order other (Rule height depth body ∷ items) = none_infinite order other items
none_infinite order other (Kern width body ∷ items) = none_infinite order other items
none_infinite order other (Penalty value body ∷ items) = none_infinite order other items
none_infinite order other (Insert class size body ∷ items) = none_infinite order other items
none_infinite order other (Carry body ∷ items) = none_infinite order other items

pub finite_shrink : (items : List Item) → amounts Finite (flat_map (elastic Shrink) items) ≡ shrink items
finite_shrink [] = refl
finite_shrink (Glue width stretch kind less body ∷ items) = ap (λ (z : ℤ). less +ℤ z) (finite_shrink items)
finite_shrink (BoxItem height depth body ∷ items) = finite_shrink items ∙ nothing_more (shrink items)
finite_shrink (Rule height depth body ∷ items) = finite_shrink items ∙ nothing_more (shrink items)
finite_shrink (Kern width body ∷ items) = finite_shrink items ∙ nothing_more (shrink items)
finite_shrink (Penalty value body ∷ items) = finite_shrink items ∙ nothing_more (shrink items)
finite_shrink (Insert class size body ∷ items) = finite_shrink items ∙ nothing_more (shrink items)
finite_shrink (Carry body ∷ items) = finite_shrink items ∙ nothing_more (shrink items)

pub finite_chosen : (items : List Item) → chosen (flat_map (elastic Shrink) items) ≡ Finite
finite_chosen items = rw (
  none_infinite Filll refl items,
  none_infinite Fill refl items,
  none_infinite Fil refl items,
) refl
