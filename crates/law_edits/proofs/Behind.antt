-- What stands behind a front of blocks: whether its first item is glue, and that it has a box, whatever is picked.
use Rattle.std.proofs.Common.{◌≡◌, refl, sym, subst, ℕ, zero, suc, ◌+◌, ◌≤◌, List, [], ◌∷◌, ◌++◌, length, map, Bool, true, false, Option, Some, arith}
use Rattle.std.specs.Prelude.{◌||◌, slice_get, unwrap_or, option_map}
use Rattle.std.specs.List.{AllByRecursion, list_any}
use Rattle.std.proofs.Math.Seq.{drop-append_seam, take-append_seam}
use Rattle.std.proofs.lemmas.Option.{same_Some}
use Rattle.pg_list.specs.Places.{has_box, picked_items, place}
use Rattle.pg_list.specs.Shapes.{BeginsWithBox, IsBlock, IsChoice, IsVariant, is_box}
use Rattle.pg_list.specs.declared.blocks.Block.{Block}
use Rattle.pg_list.specs.declared.blocks.Block.TheVariants.{One, Choice}
use Rattle.pg_list.specs.declared.item.Item.{Item}
use Rattle.pg_list.specs.declared.item.Item.TheVariants.{BoxItem, Rule, Glue, Kern, Penalty, Insert, Carry}
use Rattle.pg_list.specs.declared.variants.Variant.{Variant}
use Rattle.pg_list.specs.Break.{is_glue}
use Rattle.pg_list.specs.Flat.{FlatItem, flat_items_from, later_flat_items, variant_flat_items}
use Rattle.law_places.proofs.Alike.{item_of}
use Rattle.pg_lemmas.proofs.Bools.{or_left}
use Rattle.pg_lemmas.proofs.Lists.{all_drop, all_take}
use Rattle.law_places.proofs.Places.{pick_named}
use Rattle.law_space.proofs.Picks.{named}

-- the blocks behind a front, with a box among them
pub record GoesOn (front : List Block) (next : Block) (rest : List Block) : Type 0 where
  pub each : AllByRecursion IsBlock (front ++ next ∷ rest)
  pub boxed : list_any has_box (next ∷ rest) ≡ true

module _ {front : List Block} {next : Block} {rest : List Block} (on : GoesOn front next rest) where
  pub front_each : AllByRecursion IsBlock front
  front_each = subst (AllByRecursion IsBlock) (take-append_seam front (next ∷ rest))
      (all_take IsBlock (length front) (front ++ next ∷ rest) on.each)

  pub behind_each : AllByRecursion IsBlock (next ∷ rest)
  behind_each = subst (AllByRecursion IsBlock) (drop-append_seam front (next ∷ rest))
      (all_drop IsBlock (length front) (front ++ next ∷ rest) on.each)

-- ---- a choice begins with a box, whatever is picked

record Opens (n : ℕ) (xs : List FlatItem) : Type 0 where
  pub first : FlatItem
  pub rest : List FlatItem
  pub is : xs ≡ first ∷ rest
  pub place : first.place ≡ place n 0 0
  pub box : is_box first.item ≡ true

variant_begins : (variants : List Variant) (pick : ℕ) (v : Variant) → AllByRecursion IsVariant variants →
    slice_get variants pick ≡ Some v → BeginsWithBox v.items
variant_begins [] pick v a e = absurd cc
variant_begins (x ∷ variants) zero v a e = subst (λ (w : Variant). BeginsWithBox w.items) (same_Some x v e) a.0.begins
variant_begins (x ∷ variants) (suc pick) v a e = variant_begins variants pick v a.1 e

items_open : (n pick : ℕ) (items : List Item) (more : List FlatItem) → BeginsWithBox items →
    Opens n (variant_flat_items n pick items ++ more)
items_open n pick [] more b = absurd b
items_open n pick (item ∷ items) more b = record {
  first = record { place = place n 0 0; item = item; is_front = true };
  rest = later_flat_items n pick 1 items ++ more;
  is = refl;
  place = refl;
  box = b;
}

opens : (n : ℕ) (variants : List Variant) (rest : List Block) (picks : List ℕ) → IsChoice variants →
    named (Choice variants ∷ rest) picks ≡ length picks → Opens n (flat_items_from n (Choice variants ∷ rest) picks)
opens n [] rest [] c h = let some : 1 ≤ 0 = c.shape.some in absurd (omega arith)
opens n (v ∷ variants) rest [] c h = items_open n 0 v.items (flat_items_from (n + 1) rest []) c.shape.each.0.begins
opens n variants rest (pick ∷ picks) c h =
    let v = pick_named variants rest pick picks h in
    items_open n pick (picked_items (Choice variants) pick) (flat_items_from (n + 1) rest picks)
    (subst (λ (o : Option Variant). BeginsWithBox (unwrap_or (option_map (λ (x : Variant). x.items) o) []))
    (sym v.1) (variant_begins variants pick v.0 c.shape.each v.1))

-- ---- the first item, and a box

-- whether the first item of a block is glue
abbrev pub is_glue_block : Block → Bool
is_glue_block (One item) = is_glue item
is_glue_block (Choice variants) = false

-- the first of these items stands at the front of the block n, and is glue or not
pub record Begins (n : ℕ) (glue : Bool) (xs : List FlatItem) : Type 0 where
  pub first : FlatItem
  pub rest : List FlatItem
  pub is : xs ≡ first ∷ rest
  pub place : first.place ≡ place n 0 0
  pub glue_is : is_glue first.item ≡ glue

pub begins_at : (n : ℕ) (next : Block) (rest : List Block) (picks : List ℕ) → IsBlock next →
    named (next ∷ rest) picks ≡ length picks → Begins n (is_glue_block next) (flat_items_from n (next ∷ rest) picks)
begins_at n (One item) rest picks b h = record {
  first = record { place = place n 0 0; item = item; is_front = false };
  rest = flat_items_from (n + 1) rest picks;
  is = refl;
  place = refl;
  glue_is = refl;
}
begins_at n (Choice variants) rest picks b h = let o = opens n variants rest picks b h in
    record { first = o.first; rest = o.rest; is = o.is; place = o.place; glue_is = no_glue o.first.item o.box }
  where
    no_glue : (x : Item) → is_box x ≡ true → is_glue x ≡ false
    no_glue (BoxItem height depth body) e = refl
    no_glue (Rule height depth body) e = refl
    no_glue (Glue width stretch order shrink body) e = absurd cc
    no_glue (Kern width body) e = absurd cc
    no_glue (Penalty value body) e = absurd cc
    no_glue (Insert class size body) e = absurd cc
    no_glue (Carry body) e = absurd cc

-- a block with a box has one whatever is picked
pub boxed_from : (n : ℕ) (blocks : List Block) (picks : List ℕ) → AllByRecursion IsBlock blocks →
    named blocks picks ≡ length picks → list_any has_box blocks ≡ true →
    list_any is_box (map item_of (flat_items_from n blocks picks)) ≡ true
boxed_from n [] picks a h e = absurd cc
boxed_from n (One item ∷ blocks) picks a h e = by (is_box item) e (λ f. boxed_from (n + 1) blocks picks a.1 h f)
  where
    by : (b : Bool) → (b || list_any has_box blocks) ≡ true → (list_any has_box blocks ≡ true →
        list_any is_box (map item_of (flat_items_from (n + 1) blocks picks)) ≡ true) →
        (b || list_any is_box (map item_of (flat_items_from (n + 1) blocks picks))) ≡ true
    by true e later = refl
    by false e later = later e
boxed_from n (Choice variants ∷ blocks) picks a h e = let o = opens n variants blocks picks a.0 h in
    subst (λ (xs : List FlatItem). list_any is_box (map item_of xs) ≡ true) (sym o.is)
    (or_left (is_box o.first.item) (list_any is_box (map item_of o.rest)) o.box)
