-- Flat lists that go on alike: where they first differ, a box stands in both.
use Rattle.std.proofs.Common.{◌≡◌, refl, sym, ap, subst, ◌∙◌, ℕ, zero, suc, ◌+◌, ◌≤◌, ◌<◌, ◌⊎◌, inl, inr, List, [], ◌∷◌, ◌++◌, map, length, drop, Bool, true, false, Option, Some, None, arith}
use Rattle.std.specs.Prelude.{◌&&◌, ◌||◌, ◌==◌, if◌then◌else◌, option_map, slice_get, unwrap_or, ℤ, pos, int_lt}
use Rattle.std.specs.List.{AllByRecursion, list_all, list_any}
use Rattle.std.specs.Option.{option_map_or}
use Rattle.pg_list.specs.Places.{picked_items, items_around}
use Rattle.pg_list.specs.Shapes.{IsBlock, IsVariant, BeginsWithBox, is_box, is_discardable}
use Rattle.pg_list.specs.declared.blocks.Block.{Block}
use Rattle.pg_list.specs.declared.blocks.Block.TheVariants.{One, Choice}
use Rattle.pg_list.specs.declared.galley.Place.{Place}
use Rattle.pg_list.specs.declared.item.Item.{Item}
use Rattle.pg_list.specs.declared.item.Item.TheVariants.{BoxItem, Rule, Glue, Kern, Penalty, Insert, Carry}
use Rattle.pg_list.specs.declared.variants.Variant.{Variant}
use Rattle.pg_list.specs.Break.{break_penalty, follows_solid, has_at, is_forced, is_forcing, is_glue, item_break}
use Rattle.pg_list.specs.Flat.{FlatItem, blocks_at, flat_items_at, flat_items_from, later_flat_items, picked_variants, variant_flat_items}
use Rattle.law_places.proofs.Places.{drop_head, pick_named}
use Rattle.pg_lemmas.proofs.Lists.{all_drop}
use Rattle.pg_lemmas.proofs.Bools.{if_false, if_true}
use Rattle.pg_lemmas.proofs.Numbers.{eq_no, eq_yes}

abbrev pub Alike : List Item → List Item → Type 0
Alike [] [] = Unit {0}
Alike [] (y ∷ ys) = ⊥
Alike (x ∷ xs) [] = ⊥
Alike (x ∷ xs) (y ∷ ys) = ((x ≡ y) × Alike xs ys) ⊎ ((is_box x ≡ true) × (is_box y ≡ true))

pub alike_itself : (xs : List Item) → Alike xs xs
alike_itself [] = tt
alike_itself (x ∷ xs) = inl (refl, alike_itself xs)

pub alike_append : (ts xs ys : List Item) → Alike xs ys → Alike (ts ++ xs) (ts ++ ys)
alike_append [] xs ys a = a
alike_append (t ∷ ts) xs ys a = inl (refl, alike_append ts xs ys a)

-- ---- what lists that go on alike have alike

box_kept : (x : Item) → is_box x ≡ true → is_discardable x ≡ false
box_kept (BoxItem h d body) e = refl
box_kept (Rule h d body) e = refl
box_kept (Glue w s o k body) e = absurd cc
box_kept (Kern w body) e = absurd cc
box_kept (Penalty v body) e = absurd cc
box_kept (Insert c z body) e = absurd cc
box_kept (Carry body) e = absurd cc

box_no_glue : (x : Item) → is_box x ≡ true → is_glue x ≡ false
box_no_glue (BoxItem h d body) e = refl
box_no_glue (Rule h d body) e = refl
box_no_glue (Glue w s o k body) e = absurd cc
box_no_glue (Kern w body) e = absurd cc
box_no_glue (Penalty v body) e = absurd cc
box_no_glue (Insert c z body) e = absurd cc
box_no_glue (Carry body) e = absurd cc

box_no_forcing : (x : Item) → is_box x ≡ true → is_forcing x ≡ false
box_no_forcing (BoxItem h d body) e = refl
box_no_forcing (Rule h d body) e = refl
box_no_forcing (Glue w s o k body) e = absurd cc
box_no_forcing (Kern w body) e = absurd cc
box_no_forcing (Penalty v body) e = absurd cc
box_no_forcing (Insert c z body) e = absurd cc
box_no_forcing (Carry body) e = absurd cc

-- the penalty of a break before an item, behind one that is not discardable or not
abbrev pub break_of : Bool → List Item → Option ℤ
break_of solid [] = Some (pos 0)
break_of solid (Glue w s o k body ∷ xs) = if solid then Some (pos 0) else None
break_of solid (Kern w body ∷ xs) = if has_at is_glue xs 0 then Some (pos 0) else None
break_of solid (Penalty value body ∷ xs) = if int_lt value (pos 10000) then Some value else None
break_of solid (_ ∷ xs) = None

box_no_break : (solid : Bool) (x : Item) (xs : List Item) → is_box x ≡ true → break_of solid (x ∷ xs) ≡ None
box_no_break solid (BoxItem h d body) xs e = refl
box_no_break solid (Rule h d body) xs e = refl
box_no_break solid (Glue w s o k body) xs e = absurd cc
box_no_break solid (Kern w body) xs e = absurd cc
box_no_break solid (Penalty v body) xs e = absurd cc
box_no_break solid (Insert c z body) xs e = absurd cc
box_no_break solid (Carry body) xs e = absurd cc

glue_alike : (xs ys : List Item) → Alike xs ys → has_at is_glue xs 0 ≡ has_at is_glue ys 0
glue_alike [] [] a = refl
glue_alike [] (y ∷ ys) a = absurd a
glue_alike (x ∷ xs) [] a = absurd a
glue_alike (x ∷ xs) (y ∷ ys) (inl (e, a)) = ap is_glue e
glue_alike (x ∷ xs) (y ∷ ys) (inr (p, q)) = box_no_glue x p ∙ sym (box_no_glue y q)

boxes_alike : (xs ys : List Item) → Alike xs ys → list_any is_box xs ≡ list_any is_box ys
boxes_alike [] [] a = refl
boxes_alike [] (y ∷ ys) a = absurd a
boxes_alike (x ∷ xs) [] a = absurd a
boxes_alike (x ∷ xs) (y ∷ ys) (inl (e, a)) = let r : list_any is_box xs ≡ list_any is_box ys =
    boxes_alike xs ys a in let s : is_box x ≡ is_box y = ap is_box e in
    or_same (is_box x) (is_box y) (list_any is_box xs) (list_any is_box ys) s r
  where
    or_same : (a b c d : Bool) → a ≡ b → c ≡ d → (a || c) ≡ (b || d)
    or_same a b c d p q = cc
boxes_alike (x ∷ xs) (y ∷ ys) (inr (p, q)) =
    yes (is_box x) (list_any is_box xs) p ∙ sym (yes (is_box y) (list_any is_box ys) q)
  where
    yes : (a b : Bool) → a ≡ true → (a || b) ≡ true
    yes true b e = refl
    yes false b e = absurd cc

pub spent_alike : (xs ys : List Item) → Alike xs ys → list_all is_discardable xs ≡ list_all is_discardable ys
spent_alike [] [] a = refl
spent_alike [] (y ∷ ys) a = absurd a
spent_alike (x ∷ xs) [] a = absurd a
spent_alike (x ∷ xs) (y ∷ ys) (inl (e, a)) = let r : list_all is_discardable xs ≡ list_all is_discardable ys =
    spent_alike xs ys a in let s : is_discardable x ≡ is_discardable y = ap is_discardable e in
    and_same (is_discardable x) (is_discardable y) (list_all is_discardable xs) (list_all is_discardable ys) s
    r
  where
    and_same : (a b c d : Bool) → a ≡ b → c ≡ d → (a && c) ≡ (b && d)
    and_same a b c d p q = cc
spent_alike (x ∷ xs) (y ∷ ys) (inr (p, q)) =
    none (is_discardable x) (list_all is_discardable xs) (box_kept x p)
    ∙ sym (none (is_discardable y) (list_all is_discardable ys) (box_kept y q))
  where
    none : (a b : Bool) → a ≡ false → (a && b) ≡ false
    none false b e = refl
    none true b e = absurd cc

break_same : (solid : Bool) (x : Item) (xs ys : List Item) → has_at is_glue xs 0 ≡ has_at is_glue ys 0 →
    break_of solid (x ∷ xs) ≡ break_of solid (x ∷ ys)
break_same solid (BoxItem h d body) xs ys e = refl
break_same solid (Rule h d body) xs ys e = refl
break_same solid (Glue w s o k body) xs ys e = refl
break_same solid (Kern w body) xs ys e = ap (λ (b : Bool). if b then Some (pos 0) else None) e
break_same solid (Penalty v body) xs ys e = refl
break_same solid (Insert c z body) xs ys e = refl
break_same solid (Carry body) xs ys e = refl

pub break_alike : (solid : Bool) (xs ys : List Item) → Alike xs ys → break_of solid xs ≡ break_of solid ys
break_alike solid [] [] a = refl
break_alike solid [] (y ∷ ys) a = absurd a
break_alike solid (x ∷ xs) [] a = absurd a
break_alike solid (x ∷ xs) (y ∷ ys) (inl (e, a)) =
    break_same solid x xs ys (glue_alike xs ys a) ∙ ap (λ (z : Item). break_of solid (z ∷ ys)) e
break_alike solid (x ∷ xs) (y ∷ ys) (inr (p, q)) = box_no_break solid x xs p ∙ sym (box_no_break solid y ys q)

abbrev pub forced_of : List Item → Bool
forced_of [] = true
forced_of (x ∷ xs) = is_forcing x && list_any is_box xs

pub forced_alike : (xs ys : List Item) → Alike xs ys → forced_of xs ≡ forced_of ys
forced_alike [] [] a = refl
forced_alike [] (y ∷ ys) a = absurd a
forced_alike (x ∷ xs) [] a = absurd a
forced_alike (x ∷ xs) (y ∷ ys) (inl (e, a)) = let r : list_any is_box xs ≡ list_any is_box ys =
    boxes_alike xs ys a in let s : is_forcing x ≡ is_forcing y = ap is_forcing e in
    and_same (is_forcing x) (is_forcing y) (list_any is_box xs) (list_any is_box ys) s r
  where
    and_same : (a b c d : Bool) → a ≡ b → c ≡ d → (a && c) ≡ (b && d)
    and_same a b c d p q = cc
forced_alike (x ∷ xs) (y ∷ ys) (inr (p, q)) =
    none (is_forcing x) (list_any is_box xs) (box_no_forcing x p)
    ∙ sym (none (is_forcing y) (list_any is_box ys) (box_no_forcing y q))
  where
    none : (a b : Bool) → a ≡ false → (a && b) ≡ false
    none false b e = refl
    none true b e = absurd cc

-- ---- a break depends on the item before it and on the rest

drop_end : (k : ℕ) (xs : List Item) → k ≤ length xs → drop k xs ≡ [] → k ≡ length xs
drop_end zero [] h e = refl
drop_end zero (x ∷ xs) h e = absurd cc
drop_end (suc k) [] h e = absurd (omega arith)
drop_end (suc k) (x ∷ xs) h e = ap suc (drop_end k xs (omega arith) e)

drop_more : (k : ℕ) (xs ys : List Item) (y : Item) → drop k xs ≡ y ∷ ys → k < length xs
drop_more zero [] ys y e = absurd cc
drop_more zero (x ∷ xs) ys y e = omega arith
drop_more (suc k) [] ys y e = absurd cc
drop_more (suc k) (x ∷ xs) ys y e = let r : k < length xs = drop_more k xs ys y e in omega arith

-- what stands right behind an item
pub next_at : (test : Item → Bool) (k : ℕ) (xs ys : List Item) → drop k xs ≡ ys →
    has_at test xs k ≡ has_at test ys 0
next_at test zero xs ys e = ap (λ (zs : List Item). has_at test zs 0) e
next_at test (suc k) [] ys e = ap (λ (zs : List Item). has_at test zs 0) e
next_at test (suc k) (x ∷ xs) ys e = next_at test k xs ys e

item_break_is : (flat : List Item) (k : ℕ) (x : Item) (xs : List Item) → drop (k + 1) flat ≡ xs →
    item_break flat k x ≡ break_of (follows_solid flat k) (x ∷ xs)
item_break_is flat k (BoxItem h d body) xs e = refl
item_break_is flat k (Rule h d body) xs e = refl
item_break_is flat k (Glue w s o g body) xs e = refl
item_break_is flat k (Kern w body) xs e =
    ap (λ (b : Bool). if b then Some (pos 0) else None) (next_at is_glue (k + 1) flat xs e)
item_break_is flat k (Penalty v body) xs e = refl
item_break_is flat k (Insert c z body) xs e = refl
item_break_is flat k (Carry body) xs e = refl

pub break_by_rest : (flat : List Item) (k : ℕ) → k ≤ length flat →
    break_penalty flat k ≡ break_of (follows_solid flat k) (drop k flat)
break_by_rest flat k h = by (drop k flat) refl
  where
    by : (rest : List Item) → drop k flat ≡ rest → break_penalty flat k ≡ break_of (follows_solid flat k) rest
    by [] e = if_true (k == length flat) (Some (pos 0)) _ (eq_yes k (length flat) (drop_end k flat h e))
    by (x ∷ xs) e =
        let r = drop_head k flat xs x e in
        if_false (k == length flat) (Some (pos 0)) (option_map_or (item_break flat k) (slice_get flat k) None)
        (eq_no k (length flat) (drop_more k flat xs x e))
        ∙ (ap (λ (o : Option Item). option_map_or (item_break flat k) o None) r.0 ∙ item_break_is flat k x xs
        r.1)

pub forced_by_rest : (flat : List Item) (k : ℕ) → k ≤ length flat → is_forced flat k ≡ forced_of (drop k flat)
forced_by_rest flat k h = by (drop k flat) refl
  where
    yes : (a b : Bool) → a ≡ true → (a || b) ≡ true
    yes true b e = refl
    yes false b e = absurd cc

    or_else : (a b c d e f : Bool) → a ≡ false → b ≡ d → c ≡ e → (a || (b && c)) ≡ (d && e)
    or_else false b c d e f p q r = cc
    or_else true b c d e f p q r = absurd cc

    by : (rest : List Item) → drop k flat ≡ rest → is_forced flat k ≡ forced_of rest
    by [] e = yes (k == length flat) _ (eq_yes k (length flat) (drop_end k flat h e))
    by (x ∷ xs) e =
        let r = drop_head k flat xs x e in
        or_else (k == length flat) (has_at is_forcing flat k) (list_any is_box (drop (k + 1) flat))
        (is_forcing x) (list_any is_box xs) true (eq_no k (length flat) (drop_more k flat xs x e))
        (next_at is_forcing k flat (x ∷ xs) e) (ap (list_any is_box) r.1)

-- ---- the items from a place on, by two lists of picks

abbrev pub item_of : FlatItem → Item
item_of x = x.item

later_alike : (n v i : ℕ) (items : List Item) (xs ys : List FlatItem) →
    Alike (map item_of xs) (map item_of ys) →
    Alike (map item_of (later_flat_items n v i items ++ xs))
    (map item_of (later_flat_items n v i items ++ ys))
later_alike n v i [] xs ys a = a
later_alike n v i (item ∷ items) xs ys a = inl (refl, later_alike n v (i + 1) items xs ys a)

pub same_alike : (ts xs ys : List FlatItem) → Alike (map item_of xs) (map item_of ys) →
    Alike (map item_of (ts ++ xs)) (map item_of (ts ++ ys))
same_alike [] xs ys a = a
same_alike (t ∷ ts) xs ys a = inl (refl, same_alike ts xs ys a)

variant_at : (variants : List Variant) (n : ℕ) (v : Variant) → AllByRecursion IsVariant variants →
    slice_get variants n ≡ Some v → IsVariant v
variant_at [] n v a e = absurd cc
variant_at (x ∷ xs) zero v a e = let s : x ≡ v = same x v e in subst IsVariant s a.0
  where
    same : (a b : Variant) → Some a ≡ Some b → a ≡ b
    same a b e = cc
variant_at (x ∷ xs) (suc n) v a e = variant_at xs n v a.1 e

-- two lists that begin with a box
fronts_alike : (n v w : ℕ) (items others : List Item) (xs ys : List FlatItem) → BeginsWithBox items →
    BeginsWithBox others → Alike (map item_of (variant_flat_items n v items ++ xs))
    (map item_of (variant_flat_items n w others ++ ys))
fronts_alike n v w [] others xs ys b c = absurd b
fronts_alike n v w (x ∷ items) [] xs ys b c = absurd c
fronts_alike n v w (x ∷ items) (y ∷ others) xs ys b c = inr (b, c)

picked_begins : (variants : List Variant) (pick : ℕ) (v : Variant) → AllByRecursion IsVariant variants →
    slice_get variants pick ≡ Some v → BeginsWithBox (picked_items (Choice variants) pick)
picked_begins variants pick v each e =
    subst (λ (o : Option Variant). BeginsWithBox (unwrap_or (option_map (λ (x : Variant). x.items) o) []))
    (sym e) (variant_at variants pick v each e).begins

first_begins : (variants : List Variant) → AllByRecursion IsVariant variants → 1 ≤ length variants →
    BeginsWithBox (picked_items (Choice variants) 0)
first_begins [] a h = absurd (omega arith)
first_begins (v ∷ variants) a h = a.0.begins

-- no picks, and picks of which the first names a variant
pub picks_alike : (n : ℕ) (blocks : List Block) (y : ℕ) (p q : List ℕ) → AllByRecursion IsBlock blocks →
    length (picked_variants blocks (y ∷ p)) ≡ suc (length p) →
    Alike (map item_of (flat_items_from n blocks [])) (map item_of (flat_items_from n blocks (y ∷ q)))
picks_alike n [] y p q a h = tt
picks_alike n (One item ∷ blocks) y p q a h = inl (refl, picks_alike (n + 1) blocks y p q a.1 h)
picks_alike n (Choice variants ∷ blocks) y p q a h =
    let v = pick_named variants blocks y p h in
    fronts_alike n 0 y (picked_items (Choice variants) 0) (picked_items (Choice variants) y)
    (flat_items_from (n + 1) blocks []) (flat_items_from (n + 1) blocks q)
    (first_begins variants a.0.shape.each a.0.shape.some)
    (picked_begins variants y v.0 a.0.shape.each v.1)

pub at_alike : (all : List Block) (at : Place) (y : ℕ) (p q : List ℕ) → AllByRecursion IsBlock all →
    length (picked_variants (blocks_at all at) (y ∷ p)) ≡ suc (length p) →
    Alike (map item_of (flat_items_at all at [])) (map item_of (flat_items_at all at (y ∷ q)))
at_alike all at y p q a h = by (at.index == 0) h
  where
    by : (b : Bool) → length (picked_variants (drop (if b then at.block else at.block + 1) all) (y ∷ p))
        ≡ suc (length p) →
        Alike (map item_of (if b then flat_items_from at.block (drop at.block all) [] else drop at.index
        (variant_flat_items at.block at.variant (items_around all at)) ++ flat_items_from (at.block + 1)
        (drop (at.block + 1) all) []))
        (map item_of (if b then flat_items_from at.block (drop at.block all) (y ∷ q) else drop at.index
        (variant_flat_items at.block at.variant (items_around all at)) ++ flat_items_from (at.block + 1)
        (drop (at.block + 1) all) (y ∷ q)))
    by true h = picks_alike at.block (drop at.block all) y p q (all_drop IsBlock at.block all a) h
    by false h = same_alike (drop at.index (variant_flat_items at.block at.variant (items_around all at)))
        (flat_items_from (at.block + 1) (drop (at.block + 1) all) [])
        (flat_items_from (at.block + 1) (drop (at.block + 1) all) (y ∷ q))
        (picks_alike (at.block + 1) (drop (at.block + 1) all) y p q (all_drop IsBlock (at.block + 1) all a) h)
