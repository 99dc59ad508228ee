-- At a break the item ahead is the one that stands at its place.
use Rattle.std.proofs.Common.{◌≡◌, refl, sym, ap, ◌∙◌, subst, ℕ, zero, suc, List, [], ◌∷◌, Bool, true, false, Option, Some}
use Rattle.std.specs.Prelude.{◌&&◌, ◌==◌, if◌then◌else◌, is_some, not, slice_get}
use Rattle.std.specs.List.{AllByRecursion}
use Rattle.std.specs.Option.{option_map_or}
use Rattle.std.proofs.lemmas.Option.{same_Some}
use Rattle.pg_list.specs.declared.item.Item.{Item}
use Rattle.pg_list.specs.declared.item.Item.TheVariants.{BoxItem, Rule, Glue, Kern, Penalty, Insert, Carry}
use Rattle.pg_list.specs.declared.variants.Variant.{Variant}
use Rattle.pg_list.specs.declared.blocks.Block.{Block}
use Rattle.pg_list.specs.declared.blocks.Block.TheVariants.{One, Choice}
use Rattle.pg_list.specs.Places.{item_at, picked_items, place}
use Rattle.pg_list.specs.Shapes.{BeginsWithBox, IsBlock, IsVariant, is_box, is_insert}
use Rattle.pg_list.specs.Break.{is_forcing}
use Rattle.pg_breaks.specs.Near.{glue_after, near_penalty, place_forced, place_penalty, solid_before, text_after}
use Rattle.pg_lemmas.proofs.Bools.{by_bool}
use Rattle.pg_lemmas.proofs.Numbers.{suc_not}
use Rattle.pg_hops.specs.declared.cursor.Cursor.{Cursor}
use Rattle.pg_hops.specs.Ahead.{item_ahead, place_ahead}
use Rattle.pg_hops.specs.Told.{told}
use Rattle.pg_hops.proofs.Cursors.{single_got, single_item}
use Rattle.pg_hops.proofs.Telling.{told_break}

-- ---- a choice begins with a box in each variant

first_box : (items : List Item) (item : Item) → BeginsWithBox items → slice_get items 0 ≡ Some item → is_box item ≡ true
first_box [] item box e = elim box [ ]
first_box (x ∷ items) item box e = let b : is_box x ≡ true = cc in ap is_box (sym (same_Some x item e)) ∙ b

variant_box : (variants : List Variant) (v : ℕ) (item : Item) → AllByRecursion IsVariant variants →
    slice_get (picked_items (Choice variants) v) 0 ≡ Some item → is_box item ≡ true
variant_box [] v item all e = absurd cc
variant_box (w ∷ ws) zero item all e = first_box w.items item all.0.begins e
variant_box (w ∷ ws) (suc v) item all e = variant_box ws v item all.1 e

front_there : (blocks : List Block) → AllByRecursion IsBlock blocks → (b v : ℕ) (item : Item) →
    item_at blocks (place b v 0) ≡ Some item → is_box item ≡ false → item_at blocks (place b 0 0) ≡ Some item
front_there [] all b v item e plain = absurd cc
front_there (One x ∷ blocks) all zero v item e plain = by (v == 0) e
  where
    by : (t : Bool) → slice_get (if t then x ∷ [] else []) 0 ≡ Some item → Some x ≡ Some item
    by true f = f
    by false f = absurd cc
front_there (Choice variants ∷ blocks) all zero v item e plain =
    absurd (let k : true ≡ false = sym (variant_box variants v item all.0.shape.each e) ∙ plain in cc)
front_there (block ∷ blocks) all (suc b) v item e plain = front_there blocks all.1 b v item e plain

plain_there : (blocks : List Block) → AllByRecursion IsBlock blocks → (c : Cursor) (item : Item) →
    item_ahead blocks c ≡ Some item → is_box item ≡ false → item_at blocks (place_ahead c) ≡ Some item
plain_there blocks all c item e plain = by c.block c.variant c.index c.is_inner e
  where
    by : (b v i : ℕ) (t : Bool) →
        item_ahead blocks (record { block = b; variant = v; index = i; is_inner = t }) ≡ Some item →
        item_at blocks (place_ahead (record { block = b; variant = v; index = i; is_inner = t })) ≡ Some item
    by b v i false e = single_item blocks b item (single_got blocks b item e)
    by b v zero true e = front_there blocks all b v item e plain
    by b v (suc i) true e =
        subst (λ (f : Bool). item_at blocks (if not f then place b v (suc i) else place b 0 0) ≡ Some item)
        (sym (suc_not i)) e

-- ---- at a break

box_told : (item : Item) → is_box item ≡ true → told item ≡ Some false
box_told (BoxItem height depth body) e = refl
box_told (Rule height depth body) e = refl
box_told (Glue width stretch order shrink body) e = absurd cc
box_told (Kern width body) e = absurd cc
box_told (Penalty value body) e = absurd cc
box_told (Insert class size body) e = absurd cc
box_told (Carry body) e = absurd cc

near_insert : (item : Item) (solid glue : Bool) → is_some (near_penalty (Some item) solid glue) ≡ true →
    is_insert item ≡ false
near_insert (BoxItem height depth body) solid glue e = refl
near_insert (Rule height depth body) solid glue e = refl
near_insert (Glue width stretch order shrink body) solid glue e = refl
near_insert (Kern width body) solid glue e = refl
near_insert (Penalty value body) solid glue e = refl
near_insert (Insert class size body) solid glue e = absurd cc
near_insert (Carry body) solid glue e = refl

module _ (blocks : List Block) (all : AllByRecursion IsBlock blocks) (c : Cursor) (item : Item)
    (ahead : item_ahead blocks c ≡ Some item) (at : is_some (place_penalty blocks (place_ahead c)) ≡ true) where
  pub break_there : item_at blocks (place_ahead c) ≡ Some item
  break_there = by_bool (is_box item)
      (λ box. absurd (let k : false ≡ true = told_break blocks all c item ahead false (box_told item box) ∙ at in cc))
      (λ plain. plain_there blocks all c item ahead plain)

  -- it is no insert
  pub break_insert : is_insert item ≡ false
  break_insert = near_insert item (solid_before blocks (place_ahead c)) (glue_after blocks (place_ahead c))
      (ap (λ (o : Option Item).
      is_some (near_penalty o (solid_before blocks (place_ahead c)) (glue_after blocks (place_ahead c))))
      (sym break_there) ∙ at)

  -- where it does not force, nothing does
  pub break_free : is_forcing item ≡ false → place_forced blocks (place_ahead c) ≡ false
  break_free free =
      ap (λ (o : Option Item). option_map_or (λ (x : Item). is_forcing x && text_after blocks (place_ahead c)) o true)
      break_there
      ∙ ap (λ (t : Bool). t && text_after blocks (place_ahead c)) free
