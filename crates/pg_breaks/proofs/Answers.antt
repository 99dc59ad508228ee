-- What is seen at a place decides its break.
use Rattle.std.proofs.Common.{◌≡◌, refl, sym, ap, ◌∙◌, subst, ℕ, zero, suc, ◌+◌, ◌-◌, ◌<◌, ◌≤◌, List, [], ◌∷◌, ◌++◌, length, map, drop, arith, Bool, true, false, Option, Some, None, IsTrue, ◌⊎◌, inl, inr, get_or, add-one}
use Rattle.std.specs.Prelude.{slice_get, not, ◌==◌, ◌&&◌, ◌||◌, if◌then◌else◌, nat_le, IsSomeAnd}
use Rattle.std.specs.Option.{option_map_or}
use Rattle.std.specs.List.{AllByRecursion, list_any, list_all, position}
use Rattle.std.proofs.lemmas.Bool.Decides.{nat_tests}
use Rattle.std.proofs.lemmas.List.Folds.{list_any-append, list_all-append}
use Rattle.std.proofs.lemmas.List.Quantifiers.{position-Some}
use Rattle.std.proofs.lemmas.Option.{slice_get-get_or}
use Rattle.pg_list.specs.declared.item.Item.{Item}
use Rattle.pg_list.specs.declared.item.Item.TheVariants.{BoxItem, Rule, Glue, Kern, Penalty, Insert, Carry}
use Rattle.pg_list.specs.declared.variants.Variant.{Variant}
use Rattle.pg_list.specs.declared.blocks.Block.{Block}
use Rattle.pg_list.specs.declared.blocks.Block.TheVariants.{One, Choice}
use Rattle.pg_list.specs.declared.galley.Place.{Place}
use Rattle.pg_list.specs.Places.{place, picked_items, item_at, has_box, is_solid_block, solid}
use Rattle.pg_list.specs.Shapes.{is_box, is_discardable, BeginsWithBox, EndsSolid, IsBlock, IsChoice}
use Rattle.pg_list.specs.Break.{has_at, break_penalty, item_break, is_glue, is_forcing, follows_solid, is_forced, is_spent}
use Rattle.pg_list.specs.Flat.{FlatItem, flat, flat_items, flat_items_at, blocks_at, steps_to, is_same_place, end_of}
use Rattle.pg_breaks.specs.Near.{begins_with_glue, glue_first, near_penalty, place_penalty, place_forced, place_spent, solid_before, glue_after, text_after, items_after, blocks_after}
use Rattle.pg_breaks.specs.Read.{AreNamed, items_at}
use Rattle.pg_breaks.proofs.Listed.{listed, ArePicks, are_picks, shown, blocks_shown}
use Rattle.pg_breaks.proofs.Lists.{follows, follows_none, get_lt}
use Rattle.pg_breaks.proofs.Walk.{Seen, inside, front, around, picked_shape, seen_from}
use Rattle.pg_breaks.proofs.Column.{SeenAt, column_seen}
use Rattle.pg_breaks.proofs.Kept.{any_from, le_not}
use Rattle.std.proofs.Math.Seq.{drop-length}
use Rattle.pg_lemmas.proofs.Numbers.{eq_refl}
use Rattle.pg_list.proofs.Places.{same_place}

box_plain : (items : List Item) (list : List Item) → BeginsWithBox items →
    (has_at is_glue (items ++ list) 0 ≡ false) × (list_any is_box (items ++ list) ≡ true)
    × (list_all is_discardable (items ++ list) ≡ false)
box_plain [] list box = elim box [ ]
box_plain (BoxItem h d body ∷ items) list box = (refl, refl, refl)
box_plain (Rule h d body ∷ items) list box = (refl, refl, refl)
box_plain (Glue w s o k body ∷ items) list box = absurd (cc)
box_plain (Kern w body ∷ items) list box = absurd (cc)
box_plain (Penalty v body ∷ items) list box = absurd (cc)
box_plain (Insert c z body ∷ items) list box = absurd (cc)
box_plain (Carry body ∷ items) list box = absurd (cc)

first_box : (variants : List Variant) (v : ℕ) → IsChoice variants → v < length variants →
    BeginsWithBox (picked_items (Choice variants) v)
first_box variants v choice h = (picked_shape variants v choice.shape.each h).0

some_variant : (variants : List Variant) → IsChoice variants → 0 < length variants
some_variant variants choice = omega (arith, choice.shape.some)

-- a choice holds a box
choice_text : (variants : List Variant) → IsChoice variants → has_box (Choice variants) ≡ true
choice_text [] choice = absurd (omega (arith, choice.shape.some))
choice_text (v ∷ variants) choice = begins v.items choice.shape.each.0.begins
  where
    begins : (items : List Item) → BeginsWithBox items →
        (list_any is_box items || list_any (λ (w : Variant). list_any is_box w.items) variants) ≡ true
    begins [] box = elim box [ ]
    begins (BoxItem h d body ∷ items) box = refl
    begins (Rule h d body ∷ items) box = refl
    begins (Glue w s o k body ∷ items) box = absurd (cc)
    begins (Kern w body ∷ items) box = absurd (cc)
    begins (Penalty v body ∷ items) box = absurd (cc)
    begins (Insert c z body ∷ items) box = absurd (cc)
    begins (Carry body ∷ items) box = absurd (cc)

-- ---- the items of whole blocks, block by block

blocks_glue : (blocks : List Block) (picks : List ℕ) → AllByRecursion IsBlock blocks → ArePicks blocks picks →
    has_at is_glue (listed blocks picks) 0 ≡ begins_with_glue blocks
blocks_glue [] picks all ok = refl
blocks_glue (One item ∷ blocks) picks all ok = refl
blocks_glue (Choice variants ∷ blocks) [] all ok =
    (box_plain _ (listed blocks []) (first_box variants 0 all.0 (some_variant variants all.0))).0
blocks_glue (Choice variants ∷ blocks) (pick ∷ picks) all ok =
    (box_plain _ (listed blocks picks) (first_box variants pick all.0 ok.0)).0

blocks_text : (blocks : List Block) (picks : List ℕ) → AllByRecursion IsBlock blocks → ArePicks blocks picks →
    list_any is_box (listed blocks picks) ≡ list_any has_box blocks
blocks_text [] picks all ok = refl
blocks_text (One item ∷ blocks) picks all ok = ap (λ b. is_box item || b) (blocks_text blocks picks all.1 ok)
blocks_text (Choice variants ∷ blocks) [] all ok =
    (box_plain _ (listed blocks []) (first_box variants 0 all.0 (some_variant variants all.0))).1
    ∙ sym (ap (λ b. b || list_any has_box blocks) (choice_text variants all.0))
blocks_text (Choice variants ∷ blocks) (pick ∷ picks) all ok =
    (box_plain _ (listed blocks picks) (first_box variants pick all.0 ok.0)).1
    ∙ sym (ap (λ b. b || list_any has_box blocks) (choice_text variants all.0))

not_or : (a b : Bool) → not (a || b) ≡ (not a && not b)
not_or true b = refl
not_or false b = refl

not_not : (a : Bool) → not (not a) ≡ a
not_not true = refl
not_not false = refl

blocks_weak : (blocks : List Block) (picks : List ℕ) → AllByRecursion IsBlock blocks → ArePicks blocks picks →
    list_all is_discardable (listed blocks picks) ≡ not (list_any is_solid_block blocks)
blocks_weak [] picks all ok = refl
blocks_weak (One item ∷ blocks) picks all ok =
    ap (λ b. is_discardable item && b) (blocks_weak blocks picks all.1 ok)
    ∙ (ap (λ a. a && not (list_any is_solid_block blocks)) (sym (not_not (is_discardable item)))
    ∙ sym (not_or (not (is_discardable item)) (list_any is_solid_block blocks)))
blocks_weak (Choice variants ∷ blocks) [] all ok =
    (box_plain _ (listed blocks []) (first_box variants 0 all.0 (some_variant variants all.0))).2
blocks_weak (Choice variants ∷ blocks) (pick ∷ picks) all ok =
    (box_plain _ (listed blocks picks) (first_box variants pick all.0 ok.0)).2

glue_listed : (items : List Item) (blocks : List Block) (picks : List ℕ) → AllByRecursion IsBlock blocks →
    ArePicks blocks picks → has_at is_glue (items ++ listed blocks picks) 0 ≡ glue_first items blocks
glue_listed [] blocks picks all ok = blocks_glue blocks picks all ok
glue_listed (item ∷ items) blocks picks all ok = refl

has_drop : (p : Item → Bool) (list : List Item) (k : ℕ) → has_at p list k ≡ has_at p (drop k list) 0
has_drop p list zero = refl
has_drop p [] (suc k) = refl
has_drop p (x ∷ list) (suc k) = has_drop p list k

not_end : (list : List Item) (k : ℕ) → k < length list → (k == length list) ≡ false
not_end list k h = grind (arith, nat_tests)

-- ---- the three answers

item_near : (list : List Item) (k : ℕ) (item : Item) (solid glue : Bool) → follows_solid list k ≡ solid →
    has_at is_glue list (k + 1) ≡ glue → item_break list k item ≡ near_penalty (Some item) solid glue
item_near list k (BoxItem h d body) solid glue a b = refl
item_near list k (Rule h d body) solid glue a b = refl
item_near list k (Glue w s o sh body) solid glue a b = rw a refl
item_near list k (Kern w body) solid glue a b = rw b refl
item_near list k (Penalty v body) solid glue a b = refl
item_near list k (Insert c z body) solid glue a b = refl
item_near list k (Carry body) solid glue a b = refl

box_near : (item : Item) (list : List Item) (k : ℕ) (solid glue : Bool) → is_box item ≡ true →
    (item_break list k item ≡ None) × (near_penalty (Some item) solid glue ≡ None) × (is_forcing item ≡ false)
    × (is_discardable item ≡ false)
box_near (BoxItem h d body) list k solid glue e = (refl, refl, refl, refl)
box_near (Rule h d body) list k solid glue e = (refl, refl, refl, refl)
box_near (Glue w s o sh body) list k solid glue e = absurd (cc)
box_near (Kern w body) list k solid glue e = absurd (cc)
box_near (Penalty v body) list k solid glue e = absurd (cc)
box_near (Insert c z body) list k solid glue e = absurd (cc)
box_near (Carry body) list k solid glue e = absurd (cc)

penalty_item : (list : List Item) (k : ℕ) (item : Item) → slice_get list k ≡ Some item →
    break_penalty list k ≡ item_break list k item
penalty_item list k item e = rw (not_end list k (get_lt list k item e), e) refl

-- what stands behind the offset stands behind the place
after_is : (list : List Item) (k : ℕ) (blocks : List Block) (at : Place) (picks : List ℕ) →
    drop (suc k) list ≡ drop (suc at.index) (around blocks at.block at.variant)
    ++ listed (drop (suc at.block) blocks) picks →
    drop (k + 1) list ≡ items_after blocks at ++ listed (blocks_after blocks at) picks
after_is list k blocks at picks d = rw (add-one k, add-one at.index, add-one at.block) d

blocks_all : (blocks : List Block) (b : ℕ) → AllByRecursion IsBlock (drop (suc b) blocks) →
    AllByRecursion IsBlock (drop (b + 1) blocks)
blocks_all blocks b all = rw (add-one b) all

blocks_ok : (blocks : List Block) (b : ℕ) (picks : List ℕ) → ArePicks (drop (suc b) blocks) picks →
    ArePicks (drop (b + 1) blocks) picks
blocks_ok blocks b picks ok = rw (add-one b) ok

pub penalty_seen : (s : Bool) (list : List Item) (k : ℕ) (blocks : List Block) (at : Place) →
    follows s list k ≡ follows_solid list k → Seen s false list k blocks at.block at.variant at.index →
    break_penalty list k ≡ place_penalty blocks at
penalty_seen s list k blocks at same seen = elim seen [
  | inside item picks a b c d all ok ↦
      let glue : has_at is_glue list (k + 1) ≡ glue_after blocks at =
      has_drop is_glue list (k + 1)
      ∙ ap (λ (xs : List Item). has_at is_glue xs 0) (after_is list k blocks at picks d)
      ∙ glue_listed (items_after blocks at) (blocks_after blocks at) picks (blocks_all blocks at.block all)
      (blocks_ok blocks at.block picks ok) in
      penalty_item list k item a
      ∙ item_near list k item (solid_before blocks at) (glue_after blocks at) (sym same ∙ c) glue
      ∙ ap (λ (o : Option Item). near_penalty o (solid_before blocks at) (glue_after blocks at)) (sym b)
  | front item other a box b box' ↦
      penalty_item list k item a ∙ (box_near item list k true true box).0
      ∙ sym (box_near other list k (solid_before blocks at) (glue_after blocks at) box').1
      ∙ ap (λ (o : Option Item). near_penalty o (solid_before blocks at) (glue_after blocks at)) (sym b)
]

forced_item : (list : List Item) (k : ℕ) (item : Item) → slice_get list k ≡ Some item →
    is_forced list k ≡ (is_forcing item && list_any is_box (drop (k + 1) list))
forced_item list k item e = rw (not_end list k (get_lt list k item e), e) refl

or_turned : (a b : Bool) → (a || b) ≡ (b || a)
or_turned true true = refl
or_turned true false = refl
or_turned false true = refl
or_turned false false = refl

pub forced_seen : (s : Bool) (list : List Item) (k : ℕ) (blocks : List Block) (at : Place) →
    Seen s false list k blocks at.block at.variant at.index → is_forced list k ≡ place_forced blocks at
forced_seen s list k blocks at seen = elim seen [
  | inside item picks a b c d all ok ↦
      let text : list_any is_box (drop (k + 1) list) ≡ text_after blocks at =
      ap (list_any is_box) (after_is list k blocks at picks d)
      ∙ (list_any-append is_box (items_after blocks at) (listed (blocks_after blocks at) picks)
      ∙ (or_turned (list_any is_box (items_after blocks at))
      (list_any is_box (listed (blocks_after blocks at) picks))
      ∙ ap (λ b. b || list_any is_box (items_after blocks at))
      (blocks_text (blocks_after blocks at) picks (blocks_all blocks at.block all)
      (blocks_ok blocks at.block picks ok) ∙ any_from has_box blocks (at.block + 1)))) in
      forced_item list k item a ∙ ap (λ b. is_forcing item && b) text
      ∙ ap (λ (o : Option Item). option_map_or (λ item. is_forcing item && text_after blocks at) o true) (sym b)
  | front item other a box b box' ↦
      forced_item list k item a
      ∙ ap (λ f. f && list_any is_box (drop (k + 1) list)) (box_near item list k true true box).2
      ∙ sym (ap (λ f. f && text_after blocks at) (box_near other list k true true box').2)
      ∙ ap (λ (o : Option Item). option_map_or (λ item. is_forcing item && text_after blocks at) o true) (sym b)
]

drop_item : {X : Type 0} (list : List X) (k : ℕ) (item : X) → slice_get list k ≡ Some item →
    drop k list ≡ item ∷ drop (suc k) list
drop_item [] k item e = absurd (cc)
drop_item {X} (x ∷ list) zero item e = let same : x ≡ item = cc in ap (λ (y : X). y ∷ list) same
drop_item (x ∷ list) (suc k) item e = drop_item list k item e

-- ---- spent: the rest of a solid block is not

record IsAt (blocks : List Block) (j v i : ℕ) (item : Item) : Type 0 where
  block : Block
  there : slice_get blocks j ≡ Some block
  within : slice_get (picked_items block v) i ≡ Some item
  shape : IsBlock block

block_at : (blocks : List Block) (j v i : ℕ) (item : Item) → AllByRecursion IsBlock blocks →
    slice_get (around blocks j v) i ≡ Some item → IsAt blocks j v i item
block_at [] j v i item all e = absurd (cc)
block_at (block ∷ blocks) zero v i item all e = record { block = block; there = refl; within = e; shape = all.0 }
block_at (block ∷ blocks) (suc j) v i item all e =
    let r = block_at blocks j v i item all.1 e in
    record { block = r.block; there = r.there; within = r.within; shape = r.shape }

weak_rest : (items : List Item) (i : ℕ) → i < length items → EndsSolid items →
    list_all is_discardable (drop i items) ≡ false
weak_rest [] i h solid = absurd (omega arith)
weak_rest (x ∷ []) zero h solid = last x solid
  where
    last : (x : Item) → IsTrue (not (is_discardable x)) → (is_discardable x && true) ≡ false
    last (BoxItem h d body) s = refl
    last (Rule h d body) s = refl
    last (Glue w z o k body) s = absurd (cc)
    last (Kern w body) s = absurd (cc)
    last (Penalty v body) s = absurd (cc)
    last (Insert c z body) s = refl
    last (Carry body) s = refl
weak_rest (x ∷ []) (suc i) h solid = absurd (omega arith)
weak_rest (x ∷ y ∷ ys) zero h solid =
    let rest : list_all is_discardable (y ∷ ys) ≡ false =
    weak_rest (y ∷ ys) 0 (omega arith) (behind x y ys solid) in
    ap (λ b. is_discardable x && b) rest ∙ and-false (is_discardable x)
  where
    and-false : (a : Bool) → (a && false) ≡ false
    and-false true = refl
    and-false false = refl

    behind : (x y : Item) (ys : List Item) → EndsSolid (x ∷ y ∷ ys) → EndsSolid (y ∷ ys)
    behind x y ys solid =
        let P : Option Item → Type 0 = λ o. IsSomeAnd o (λ item. IsTrue (not (is_discardable item))) in
        let e : length (x ∷ y ∷ ys) - 1 ≡ suc (length (y ∷ ys) - 1) = omega arith in
        subst P (ap (slice_get (x ∷ y ∷ ys)) e) solid
weak_rest (x ∷ y ∷ ys) (suc i) h solid = weak_rest (y ∷ ys) i (omega (arith, h)) (behind x y ys solid)
  where
    behind : (x y : Item) (ys : List Item) → EndsSolid (x ∷ y ∷ ys) → EndsSolid (y ∷ ys)
    behind x y ys solid =
        let P : Option Item → Type 0 = λ o. IsSomeAnd o (λ item. IsTrue (not (is_discardable item))) in
        let e : length (x ∷ y ∷ ys) - 1 ≡ suc (length (y ∷ ys) - 1) = omega arith in
        subst P (ap (slice_get (x ∷ y ∷ ys)) e) solid

named_variant : (variants : List Variant) (v i : ℕ) (item : Item) →
    slice_get (picked_items (Choice variants) v) i ≡ Some item → v < length variants
named_variant [] v i item e = absurd (cc)
named_variant (w ∷ ws) zero i item e = omega arith
named_variant (w ∷ ws) (suc v) i item e = let r = named_variant ws v i item e in omega (arith, r)

-- the rest of a variant is all discardable just where its block is
rest_weak : (block : Block) (v i : ℕ) (item : Item) → IsBlock block →
    slice_get (picked_items block v) i ≡ Some item →
    list_all is_discardable (drop i (picked_items block v)) ≡ not (is_solid_block block)
rest_weak (One x) v i item shape e = one (v == 0) i e
  where
    one : (t : Bool) (i : ℕ) → slice_get (if t then x ∷ [] else []) i ≡ Some item →
        list_all is_discardable (drop i (if t then x ∷ [] else [])) ≡ not (not (is_discardable x))
    one true zero e = and_true (is_discardable x)
      where
        and_true : (a : Bool) → (a && true) ≡ not (not a)
        and_true true = refl
        and_true false = refl
    one true (suc i) e = absurd (cc)
    one false i e = absurd (cc)
rest_weak (Choice variants) v i item shape e =
    weak_rest (picked_items (Choice variants) v) i (get_lt (picked_items (Choice variants) v) i item e)
    (picked_shape variants v shape.shape.each (named_variant variants v i item e)).1

box_solid : (block : Block) (v i : ℕ) (item : Item) → slice_get (picked_items block v) i ≡ Some item →
    is_box item ≡ true → is_solid_block block ≡ true
box_solid (One x) v i item e box = one (v == 0) i e
  where
    one : (t : Bool) (i : ℕ) → slice_get (if t then x ∷ [] else []) i ≡ Some item → not (is_discardable x) ≡ true
    one true zero e = let same : x ≡ item = cc in
        ap (λ (y : Item). not (is_discardable y)) same ∙ ap not (box_near item [] 0 true true box).3
    one true (suc i) e = absurd (cc)
    one false i e = absurd (cc)
box_solid (Choice variants) v i item e box = refl

around_drop : (blocks : List Block) (j v i : ℕ) (block : Block) → slice_get blocks j ≡ Some block →
    drop i (around blocks j v) ≡ drop i (picked_items block v)
around_drop [] j v i block e = absurd (cc)
around_drop (b ∷ blocks) zero v i block e = let same : b ≡ block = cc in
    ap (λ (x : Block). drop i (picked_items x v)) same
around_drop (b ∷ blocks) (suc j) v i block e = around_drop blocks j v i block e

-- what the galley's number says at a block
spent_block : (blocks : List Block) (j : ℕ) (block : Block) → slice_get blocks j ≡ Some block →
    nat_le (solid blocks) j ≡ not (is_solid_block block || list_any is_solid_block (drop (suc j) blocks))
spent_block blocks j block e =
    le_not (solid blocks) j
    ∙ ap not (sym (any_from is_solid_block blocks j) ∙ ap (list_any is_solid_block) (drop_item blocks j block e))

pub spent_seen : (s : Bool) (list : List Item) (k : ℕ) (blocks : List Block) (at : Place) →
    AllByRecursion IsBlock blocks → Seen s false list k blocks at.block at.variant at.index →
    is_spent list k ≡ place_spent blocks at
spent_seen s list k blocks at each seen = elim seen [
  | inside item picks a b c d all ok ↦
      let is = block_at blocks at.block at.variant at.index item each b in
      let tail : list_all is_discardable (listed (drop (suc at.block) blocks) picks)
      ≡ not (list_any is_solid_block (drop (suc at.block) blocks)) =
      blocks_weak (drop (suc at.block) blocks) picks all ok in
      let own : drop at.index (around blocks at.block at.variant)
      ≡ item ∷ drop (suc at.index) (around blocks at.block at.variant) =
      drop_item (around blocks at.block at.variant) at.index item b in
      let head : list_all is_discardable (item ∷ drop (suc at.index) (around blocks at.block at.variant))
      ≡ not (is_solid_block is.block) =
      ap (list_all is_discardable) (sym own ∙ around_drop blocks at.block at.variant at.index is.block is.there)
      ∙ rest_weak is.block at.variant at.index item is.shape is.within in
      let whole : drop k list ≡ (item ∷ drop (suc at.index) (around blocks at.block at.variant))
      ++ listed (drop (suc at.block) blocks) picks =
      drop_item list k item a ∙ ap (λ (xs : List Item). item ∷ xs) d in
      ap (list_all is_discardable) whole
      ∙ (list_all-append is_discardable (item ∷ drop (suc at.index) (around blocks at.block at.variant))
      (listed (drop (suc at.block) blocks) picks)
      ∙ (ap (λ b. b && list_all is_discardable (listed (drop (suc at.block) blocks) picks)) head
      ∙ (ap (λ b. not (is_solid_block is.block) && b) tail
      ∙ (sym (not_or (is_solid_block is.block) (list_any is_solid_block (drop (suc at.block) blocks)))
      ∙ sym (spent_block blocks at.block is.block is.there)))))
  | front item other a box b box' ↦
      let is = block_at blocks at.block at.variant at.index other each b in
      let here : is_solid_block is.block ≡ true = box_solid is.block at.variant at.index other is.within box' in
      ap (list_all is_discardable) (drop_item list k item a)
      ∙ (ap (λ w. w && list_all is_discardable (drop (suc k) list)) (box_near item list k true true box).3
      ∙ sym (spent_block blocks at.block is.block is.there
      ∙ ap (λ w. not (w || list_any is_solid_block (drop (suc at.block) blocks))) here))
]

-- ---- from a place to what is seen there

-- a place is the end, or an item is seen there
data At (list : List Item) (k : ℕ) (blocks : List Block) (at : Place) (Here : Place → Type 0) : Type 0 where
  at_end : at ≡ end_of blocks → k ≡ length list → At list k blocks at Here
  at_item : Here at → At list k blocks at Here

end_or : (same : Bool) (n k : ℕ) (o : Option ℕ) → (if same then Some n else o) ≡ Some k →
    ((same ≡ true) × (k ≡ n)) ⊎ (o ≡ Some k)
end_or true n k o e = let same : n ≡ k = cc in inl (refl, sym same)
end_or false n k o e = inr e

shown_length : (flat_items : List FlatItem) → length flat_items ≡ length (map shown flat_items)
shown_length [] = refl
shown_length (x ∷ xs) = ap suc (shown_length xs)

at_steps : (flat_items : List FlatItem) (blocks : List Block) (at : Place) (k : ℕ) (Here : Place → Type 0) →
    ((flat_item : FlatItem) → slice_get flat_items k ≡ Some flat_item → Here flat_item.place) →
    steps_to blocks flat_items at ≡ Some k → At (map shown flat_items) k blocks at Here
at_steps flat_items blocks at k Here look e =
    elim (end_or (is_same_place at (end_of blocks)) (length flat_items) k
    (position (λ (flat_item : FlatItem). is_same_place flat_item.place at) flat_items) e) [
      | inl (same, k-is) ↦ at_end (same_place at (end_of blocks) same) (k-is ∙ shown_length flat_items)
      | inr found ↦
          let none : FlatItem = record { place = place 0 0 0; item = Carry []; is_front = false } in
          let is = position-Some (λ (flat_item : FlatItem). is_same_place flat_item.place at) flat_items k none found in
          let flat_item : FlatItem = get_or flat_items k none in
          let got : slice_get flat_items k ≡ Some flat_item = slice_get-get_or flat_items k none is.0 in
          at_item (subst Here (same_place flat_item.place at is.1) (look flat_item got))
    ]

get_past : {X : Type 0} (xs : List X) → slice_get xs (length xs) ≡ None
get_past [] = refl
get_past (x ∷ xs) = get_past xs

item_end : (blocks : List Block) → item_at blocks (end_of blocks) ≡ None
item_end blocks = rw (get_past blocks) refl

spent_end : (blocks : List Block) → place_spent blocks (end_of blocks) ≡ true
spent_end blocks = le_not (solid blocks) (length blocks)
    ∙ ap not (sym (any_from is_solid_block blocks (length blocks))
    ∙ ap (list_any is_solid_block) (drop-length blocks))

penalty_end : (list : List Item) (k : ℕ) (blocks : List Block) (at : Place) → at ≡ end_of blocks → k ≡ length list →
    place_penalty blocks at ≡ break_penalty list k
penalty_end list k blocks at is k-is = rw (is, k-is, item_end blocks, eq_refl) refl

forced_end : (list : List Item) (k : ℕ) (blocks : List Block) (at : Place) → at ≡ end_of blocks → k ≡ length list →
    place_forced blocks at ≡ is_forced list k
forced_end list k blocks at is k-is = rw (is, k-is, item_end blocks, eq_refl) refl

spent_at_end : (list : List Item) (k : ℕ) (blocks : List Block) (at : Place) → at ≡ end_of blocks →
    k ≡ length list → place_spent blocks at ≡ is_spent list k
spent_at_end list k blocks at is k-is =
    ap (place_spent blocks) is
    ∙ (spent_end blocks ∙ sym (ap (is_spent list) k-is ∙ ap (list_all is_discardable) (drop-length list)))

follows_more : (s : Bool) (list : List Item) (k : ℕ) → 1 ≤ k → follows s list k ≡ follows_solid list k
follows_more s list zero h = absurd (omega arith)
follows_more s list (suc k) h = refl

module _ (blocks : List Block) (all : AllByRecursion IsBlock blocks) (at : Place) where
  abbrev SeenWhole : List ℕ → ℕ → Place → Type 0
  SeenWhole picks k at = Seen false false (flat blocks picks) k blocks at.block at.variant at.index

  at-whole : (picks : List ℕ) (k : ℕ) → AreNamed blocks picks →
      steps_to blocks (flat_items blocks picks) at ≡ Some k → At (flat blocks picks) k blocks at (SeenWhole picks k)
  at-whole picks k named e = at_steps (flat_items blocks picks) blocks at k (SeenWhole picks k) look e
    where
      look : (flat_item : FlatItem) → slice_get (flat_items blocks picks) k ≡ Some flat_item →
          SeenWhole picks k flat_item.place
      look flat_item got =
          let there = seen_from false 0 k blocks picks flat_item all (are_picks blocks picks named) got in
          let j-is : there.j ≡ flat_item.place.block = omega (arith, there.block) in
          let P : List Item → Type 0 =
          λ list. Seen false false list k blocks flat_item.place.block flat_item.place.variant
          flat_item.place.index in
          let Q : ℕ → Type 0 = λ j. Seen false false
          (listed blocks picks) k blocks j flat_item.place.variant flat_item.place.index in
          subst P (sym (blocks_shown 0 blocks picks)) (subst Q j-is there.seen)

  pub penalty-whole : (picks : List ℕ) (k : ℕ) → AreNamed blocks picks →
      steps_to blocks (flat_items blocks picks) at ≡ Some k →
      place_penalty blocks at ≡ break_penalty (flat blocks picks) k
  penalty-whole picks k named e = elim (at-whole picks k named e) [
    | at_end is k-is ↦ penalty_end (flat blocks picks) k blocks at is k-is
    | at_item seen ↦ sym (penalty_seen false (flat blocks picks) k blocks at
        (follows_none (flat blocks picks) k) seen)
  ]

  pub forced-whole : (picks : List ℕ) (k : ℕ) → AreNamed blocks picks →
      steps_to blocks (flat_items blocks picks) at ≡ Some k →
      place_forced blocks at ≡ is_forced (flat blocks picks) k
  forced-whole picks k named e = elim (at-whole picks k named e) [
    | at_end is k-is ↦ forced_end (flat blocks picks) k blocks at is k-is
    | at_item seen ↦ sym (forced_seen false (flat blocks picks) k blocks at seen)
  ]

  pub spent-whole : (picks : List ℕ) (k : ℕ) → AreNamed blocks picks →
      steps_to blocks (flat_items blocks picks) at ≡ Some k → place_spent blocks at ≡ is_spent (flat blocks picks) k
  spent-whole picks k named e = elim (at-whole picks k named e) [
    | at_end is k-is ↦ spent_at_end (flat blocks picks) k blocks at is k-is
    | at_item seen ↦ sym (spent_seen false (flat blocks picks) k blocks at all seen)
  ]

  at-column : (start : Place) (picks : List ℕ) (n : ℕ) → AreNamed (blocks_at blocks start) picks →
      steps_to blocks (flat_items_at blocks start picks) at ≡ Some n →
      At (items_at blocks start picks) n blocks at (SeenAt (items_at blocks start picks) n blocks)
  at-column start picks n named e =
      at_steps (flat_items_at blocks start picks) blocks at n (SeenAt (items_at blocks start picks) n blocks)
      (λ flat_item got. column_seen blocks start picks n flat_item all
      (are_picks (blocks_at blocks start) picks named) got) e

  pub penalty-column : (start : Place) (picks : List ℕ) (n : ℕ) → AreNamed (blocks_at blocks start) picks →
      steps_to blocks (flat_items_at blocks start picks) at ≡ Some n → 1 ≤ n →
      place_penalty blocks at ≡ break_penalty (items_at blocks start picks) n
  penalty-column start picks n named e h = elim (at-column start picks n named e) [
    | at_end is n-is ↦ penalty_end (items_at blocks start picks) n blocks at is n-is
    | at_item it ↦ sym (penalty_seen it.s (items_at blocks start picks) n blocks at
        (follows_more it.s (items_at blocks start picks) n h) it.seen)
  ]

  pub forced-column : (start : Place) (picks : List ℕ) (n : ℕ) → AreNamed (blocks_at blocks start) picks →
      steps_to blocks (flat_items_at blocks start picks) at ≡ Some n →
      place_forced blocks at ≡ is_forced (items_at blocks start picks) n
  forced-column start picks n named e = elim (at-column start picks n named e) [
    | at_end is n-is ↦ forced_end (items_at blocks start picks) n blocks at is n-is
    | at_item it ↦ sym (forced_seen it.s (items_at blocks start picks) n blocks at it.seen)
  ]

  pub spent-column : (start : Place) (picks : List ℕ) (n : ℕ) → AreNamed (blocks_at blocks start) picks →
      steps_to blocks (flat_items_at blocks start picks) at ≡ Some n →
      place_spent blocks at ≡ is_spent (items_at blocks start picks) n
  spent-column start picks n named e = elim (at-column start picks n named e) [
    | at_end is n-is ↦ spent_at_end (items_at blocks start picks) n blocks at is n-is
    | at_item it ↦ sym (spent_seen it.s (items_at blocks start picks) n blocks at all it.seen)
  ]
