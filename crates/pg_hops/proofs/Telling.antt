-- What the next item tells is true of its place.
use Rattle.std.proofs.Common.{◌≡◌, refl, sym, ap, ◌∙◌, subst, ℕ, zero, suc, ◌<◌, List, [], ◌∷◌, length, arith, Bool, true, false, Option, Some, None}
use Rattle.std.specs.Prelude.{◌==◌, IsTrue, if◌then◌else◌, is_some, not, slice_get, pos, int_lt}
use Rattle.std.specs.List.{AllByRecursion}
use Rattle.std.proofs.lemmas.Option.{same_Some}
use Rattle.pg_list.specs.declared.item.Item.{Item}
use Rattle.pg_list.specs.declared.item.Item.TheVariants.{BoxItem, Rule, Glue, Kern, Penalty, Insert, Carry}
use Rattle.pg_list.specs.declared.variants.Variant.{Variant}
use Rattle.pg_list.specs.declared.blocks.Block.{Block}
use Rattle.pg_list.specs.declared.blocks.Block.TheVariants.{One, Choice}
use Rattle.pg_list.specs.Places.{item_at, picked_items, place}
use Rattle.pg_list.specs.Shapes.{BeginsWithBox, IsBlock, is_box}
use Rattle.pg_breaks.specs.Near.{glue_after, near_penalty, place_penalty, solid_before}
use Rattle.pg_breaks.proofs.Walk.{picked_shape}
use Rattle.pg_lemmas.proofs.Numbers.{suc_not}
use Rattle.pg_hops.specs.declared.cursor.Cursor.{Cursor}
use Rattle.pg_hops.specs.Ahead.{item_ahead, place_ahead}
use Rattle.pg_hops.specs.Told.{told}
use Rattle.pg_hops.proofs.Cursors.{single_got, single_item}

-- an item is there, and tells the same
record Tells (there : Option Item) (item : Item) : Type 0 where
  other : Item
  is : there ≡ Some other
  same : told other ≡ told item

-- ---- at the front of a choice a box stands in each variant

box_told : (item : Item) → IsTrue (is_box item) → told item ≡ Some false
box_told (BoxItem height depth body) box = refl
box_told (Rule height depth body) box = refl
box_told (Glue width stretch order shrink body) box = absurd (cc)
box_told (Kern width body) box = absurd (cc)
box_told (Penalty value body) box = absurd (cc)
box_told (Insert class size body) box = absurd (cc)
box_told (Carry body) box = absurd (cc)

begun_told : (items : List Item) (item : Item) → BeginsWithBox items → slice_get items 0 ≡ Some item →
    told item ≡ Some false
begun_told [] item box e = elim box [ ]
begun_told (x ∷ items) item box e = ap told (sym (same_Some x item e)) ∙ box_told x box

begun_there : (items : List Item) → BeginsWithBox items → (item : Item) → told item ≡ Some false →
    Tells (slice_get items 0) item
begun_there [] box item e = elim box [ ]
begun_there (x ∷ items) box item e = record { other = x; is = refl; same = box_told x box ∙ sym e }

named : (variants : List Variant) (v i : ℕ) (item : Item) →
    slice_get (picked_items (Choice variants) v) i ≡ Some item → v < length variants
named [] v i item e = absurd (cc)
named (w ∷ ws) zero i item e = omega arith
named (w ∷ ws) (suc v) i item e = let less = named ws v i item e in omega (arith, less)

first_told : (block : Block) (v : ℕ) (item : Item) → IsBlock block →
    slice_get (picked_items block v) 0 ≡ Some item → Tells (slice_get (picked_items block 0) 0) item
first_told (One x) v item shape e = by (v == 0) e
  where
    by : (t : Bool) → slice_get (if t then x ∷ [] else []) 0 ≡ Some item → Tells (Some x) item
    by true f = record { other = x; is = refl; same = ap told (same_Some x item f) }
    by false f = absurd (cc)
first_told (Choice variants) v item shape e =
    let within : v < length variants = named variants v 0 item e in
    let some = shape.shape.some in
    let own = begun_told (picked_items (Choice variants) v) item
    (picked_shape variants v shape.shape.each within).0 e in
    begun_there (picked_items (Choice variants) 0) (picked_shape variants 0 shape.shape.each (omega (arith, some))).0
    item own

front_told : (blocks : List Block) → AllByRecursion IsBlock blocks → (b v : ℕ) (item : Item) →
    item_at blocks (place b v 0) ≡ Some item → Tells (item_at blocks (place b 0 0)) item
front_told [] all b v item e = absurd (cc)
front_told (block ∷ blocks) all zero v item e = first_told block v item all.0 e
front_told (block ∷ blocks) all (suc b) v item e =
    let t = front_told blocks all.1 b v item e in record { other = t.other; is = t.is; same = t.same }

-- ---- at the place of the next item

there : (blocks : List Block) → AllByRecursion IsBlock blocks → (c : Cursor) (item : Item) →
    item_ahead blocks c ≡ Some item → Tells (item_at blocks (place_ahead c)) item
there blocks all c item e = by c.block c.variant c.index c.is_inner e
  where
    by : (b v i : ℕ) (t : Bool) →
        item_ahead blocks (record { block = b; variant = v; index = i; is_inner = t }) ≡ Some item →
        Tells (item_at blocks (place_ahead (record { block = b; variant = v; index = i; is_inner = t }))) item
    by b v i false e = record { other = item; is = single_item blocks b item (single_got blocks b item e); same = refl }
    by b v zero true e = front_told blocks all b v item e
    by b v (suc i) true e =
        subst (λ (f : Bool). Tells (item_at blocks (if not f then place b v (suc i) else place b 0 0)) item)
        (sym (suc_not i)) (record { other = item; is = e; same = refl })

-- ---- what is told of a break

near_told : (item : Item) (solid glue t : Bool) → told item ≡ Some t →
    t ≡ is_some (near_penalty (Some item) solid glue)
near_told (BoxItem height depth body) solid glue t e = sym (same_Some false t e)
near_told (Rule height depth body) solid glue t e = sym (same_Some false t e)
near_told (Glue width stretch order shrink body) solid glue t e = absurd (cc)
near_told (Kern width body) solid glue t e = absurd (cc)
near_told (Penalty value body) solid glue t e = sym (same_Some (int_lt value (pos 10000)) t e)
    ∙ by (int_lt value (pos 10000))
  where
    by : (below : Bool) → below ≡ is_some (if below then Some value else None)
    by true = refl
    by false = refl
near_told (Insert class size body) solid glue t e = sym (same_Some false t e)
near_told (Carry body) solid glue t e = sym (same_Some false t e)

pub told_break : (blocks : List Block) → AllByRecursion IsBlock blocks → (c : Cursor) (item : Item) →
    item_ahead blocks c ≡ Some item → (t : Bool) → told item ≡ Some t →
    t ≡ is_some (place_penalty blocks (place_ahead c))
told_break blocks all c item e t is =
    let at = place_ahead c in
    let here = there blocks all c item e in
    near_told here.other (solid_before blocks at) (glue_after blocks at) t (here.same ∙ is)
    ∙ ap (λ (o : Option Item). is_some (near_penalty o (solid_before blocks at) (glue_after blocks at))) (sym here.is)
