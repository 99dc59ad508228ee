-- Each choice has one pick, which names a variant of it.
use Rattle.std.proofs.Common.{◌≡◌, refl, sym, ap, subst, ◌∙◌, ℕ, zero, suc, ◌+◌, ◌-◌, ◌≤◌, ◌<◌, List, [], ◌∷◌, ◌++◌, length, length-append, append_assoc, map, take, drop, Bool, true, false, Option, Some, None, arith}
use Rattle.std.specs.Prelude.{◌==◌, cond, if◌then◌else◌, slice_get, unwrap_or, option_map}
use Rattle.std.specs.List.{AllByRecursion, count_by, list_all}
use Rattle.std.specs.Option.{option_map_or}
use Rattle.std.proofs.lemmas.List.{append-nil}
use Rattle.std.proofs.lemmas.List.Sums.{sum_by-append, sum_by-cons}
use Rattle.pg_list.specs.Places.{items_around, picked_items, place}
use Rattle.pg_list.specs.Shapes.{BeginsWithBox, IsBlock, is_discardable}
use Rattle.pg_list.specs.declared.blocks.Block.{Block}
use Rattle.pg_list.specs.declared.blocks.Block.TheVariants.{One, Choice}
use Rattle.pg_list.specs.declared.galley.Place.{Place}
use Rattle.pg_list.specs.declared.item.Item.{Item}
use Rattle.pg_list.specs.declared.item.Item.TheVariants.{BoxItem, Rule, Glue, Kern, Penalty, Insert, Carry}
use Rattle.pg_list.specs.declared.variants.Variant.{Variant}
use Rattle.pg_plan.specs.declared.pages.PageMove.{PageMove}
use Rattle.pg_list.specs.Flat.{FlatItem, blocks_at, flat_items_at, flat_items_from, later_flat_items, picked_variants, variant_flat_items}
use Rattle.pg_rules.specs.History.{context, place_of}
use Rattle.pg_rules.specs.Room.{ColumnContext, Document, flat_items_of}
use Rattle.law_places.proofs.Alike.{item_of}
use Rattle.law_places.proofs.Places.{begins, begins_with}
use Rattle.law_texts.specs.Texts.{Chained, is_choice, picks_of}
use Rattle.law_texts.proofs.Once.{Fits, chain_fits, chain_from, column_items, column_splits, fits_of}
use Rattle.pg_lemmas.proofs.Bools.{both_of}
use Rattle.pg_lemmas.proofs.Numbers.{suc_not}
use Rattle.pg_lemmas.proofs.Lists.{all_drop}

abbrev pub front_count : List FlatItem → ℕ
front_count xs = count_by (λ (x : FlatItem). x.is_front) xs

abbrev pub choices : List Block → ℕ
choices blocks = count_by is_choice blocks

abbrev pub named : List Block → List ℕ → ℕ
named blocks picks = length (picked_variants blocks picks)

pub front_append : (xs ys : List FlatItem) → front_count (xs ++ ys) ≡ front_count xs + front_count ys
front_append xs ys = sum_by-append (λ (x : FlatItem). cond x.is_front 1 0) xs ys

front_cons : (x : FlatItem) (xs : List FlatItem) → front_count (x ∷ xs) ≡ cond x.is_front 1 0 + front_count xs
front_cons x xs = sum_by-cons (λ (x : FlatItem). cond x.is_front 1 0) x xs

pub choices_cons : (block : Block) (blocks : List Block) →
    choices (block ∷ blocks) ≡ cond (is_choice block) 1 0 + choices blocks
choices_cons block blocks = sum_by-cons (λ (b : Block). cond (is_choice b) 1 0) block blocks

-- ---- fronts of items

later_none : (n v i : ℕ) (items : List Item) → front_count (later_flat_items n v i items) ≡ 0
later_none n v i [] = refl
later_none n v i (item ∷ items) =
    let first = front_cons (record { place = place n v i; item = item; is_front = false })
    (later_flat_items n v (i + 1) items) in omega (arith, first, later_none n v (i + 1) items)

later_dropped : (k n v i : ℕ) (items : List Item) → front_count (drop k (later_flat_items n v i items)) ≡ 0
later_dropped zero n v i items = later_none n v i items
later_dropped (suc k) n v i [] = refl
later_dropped (suc k) n v i (item ∷ items) = later_dropped k n v (i + 1) items

-- behind the first item of a variant there is no front
inner_none : (k n v : ℕ) (items : List Item) → front_count (drop (suc k) (variant_flat_items n v items)) ≡ 0
inner_none k n v [] = refl
inner_none k n v (item ∷ items) = later_dropped k n v 1 items

variant_one : (n v : ℕ) (items : List Item) → 0 < length items → front_count (variant_flat_items n v items) ≡ 1
variant_one n v [] h = absurd (omega arith)
variant_one n v (item ∷ items) h =
    let first = front_cons (record { place = place n 0 0; item = item; is_front = true })
    (later_flat_items n v 1 items) in omega (arith, first, later_none n v 1 items)

-- ---- fronts of blocks

none_named : (blocks : List Block) → named blocks [] ≡ 0
none_named [] = refl
none_named (One item ∷ blocks) = none_named blocks
none_named (Choice variants ∷ blocks) = refl

-- a front for each pick that names a variant, and for each choice behind the picks
fronts_from : (n : ℕ) (blocks : List Block) (q : List ℕ) → AllByRecursion IsBlock blocks →
    front_count (flat_items_from n blocks q) ≡ named blocks q + (choices blocks - length q)
fronts_from n [] q a = omega arith
fronts_from n (One item ∷ blocks) q a =
    let first = front_cons (record { place = place n 0 0; item = item; is_front = false })
    (flat_items_from (n + 1) blocks q) in
    let c = choices_cons (One item) blocks in omega (arith, first, c, fronts_from (n + 1) blocks q a.1)
fronts_from n (Choice variants ∷ blocks) [] a =
    let parts = front_append (variant_flat_items n 0 (picked_items (Choice variants) 0))
    (flat_items_from (n + 1) blocks []) in
    let first = variant_one n 0 (picked_items (Choice variants) 0) (begins variants a.0) in
    let c = choices_cons (Choice variants) blocks in
    omega (arith, parts, first, c, none_named blocks, fronts_from (n + 1) blocks [] a.1)
fronts_from n (Choice variants ∷ blocks) (y ∷ q) a = by (slice_get variants y) refl (fronts_from (n + 1) blocks q a.1)
  where
    parts : front_count (flat_items_from n (Choice variants ∷ blocks) (y ∷ q))
        ≡ front_count (variant_flat_items n y (picked_items (Choice variants) y))
        + front_count (flat_items_from (n + 1) blocks q)
    parts = front_append (variant_flat_items n y (picked_items (Choice variants) y))
        (flat_items_from (n + 1) blocks q)

    by : (o : Option Variant) → o ≡ slice_get variants y →
        front_count (flat_items_from (n + 1) blocks q) ≡ named blocks q + (choices blocks - length q) →
        front_count (flat_items_from n (Choice variants ∷ blocks) (y ∷ q))
        ≡ named (Choice variants ∷ blocks) (y ∷ q) + (choices (Choice variants ∷ blocks) - length (y ∷ q))
    by None e later =
        let items : picked_items (Choice variants) y ≡ [] =
        ap (λ (o : Option Variant). unwrap_or (option_map (λ (v : Variant). v.items) o) []) (sym e) in
        let none : front_count (variant_flat_items n y (picked_items (Choice variants) y)) ≡ 0 =
        ap (λ (xs : List Item). front_count (variant_flat_items n y xs)) items in
        let rest : named (Choice variants ∷ blocks) (y ∷ q) ≡ named blocks q =
        ap (λ (o : Option Variant). length (option_map_or (λ (v : Variant). v ∷ []) o []
        ++ picked_variants blocks q)) (sym e) in
        let c = choices_cons (Choice variants) blocks in
        omega (arith, parts, none, rest, c, later)
    by (Some v) e later =
        let one : front_count (variant_flat_items n y (picked_items (Choice variants) y)) ≡ 1 =
        variant_one n y (picked_items (Choice variants) y)
        (begins_with variants y v a.0.shape.each (sym e)) in
        let rest : named (Choice variants ∷ blocks) (y ∷ q) ≡ suc (named blocks q) =
        ap (λ (o : Option Variant). length (option_map_or (λ (v : Variant). v ∷ []) o []
        ++ picked_variants blocks q)) (sym e) in
        let c = choices_cons (Choice variants) blocks in
        omega (arith, parts, one, rest, c, later)

pub named_few : (blocks : List Block) (q : List ℕ) → named blocks q ≤ choices blocks
named_few [] q = omega arith
named_few (One item ∷ blocks) q = let c = choices_cons (One item) blocks in omega (arith, c, named_few blocks q)
named_few (Choice variants ∷ blocks) [] = omega arith
named_few (Choice variants ∷ blocks) (y ∷ q) =
    let c = choices_cons (Choice variants) blocks in
    let one = at_most (slice_get variants y) in
    let parts = length-append (option_map_or (λ (v : Variant). v ∷ []) (slice_get variants y) [])
    (picked_variants blocks q) in
    omega (arith, c, one, parts, named_few blocks q)
  where
    at_most : (o : Option Variant) → length (option_map_or (λ (v : Variant). v ∷ []) o []) ≤ 1
    at_most None = omega arith
    at_most (Some v) = omega arith

-- only discardable items: no choice
spent_none : (n : ℕ) (blocks : List Block) → AllByRecursion IsBlock blocks →
    list_all is_discardable (map item_of (flat_items_from n blocks [])) ≡ true → choices blocks ≡ 0
spent_none n [] a h = refl
spent_none n (One item ∷ blocks) a h =
    let c = choices_cons (One item) blocks in
    let rest = spent_none (n + 1) blocks a.1
    (both_of (is_discardable item) (list_all is_discardable (map item_of (flat_items_from (n + 1) blocks []))) h).1 in
    omega (arith, c, rest)
spent_none n (Choice [] ∷ blocks) a h = let some : 1 ≤ 0 = a.0.shape.some in absurd (omega arith)
spent_none n (Choice (v ∷ variants) ∷ blocks) a h = by v.items (a.0.shape.each.0.begins) h
  where
    by : (items : List Item) → BeginsWithBox items →
        list_all is_discardable (map item_of (variant_flat_items n 0 items ++ flat_items_from (n + 1) blocks []))
        ≡ true → choices (Choice (v ∷ variants) ∷ blocks) ≡ 0
    by [] b h = absurd b
    by (BoxItem x y body ∷ items) b h = absurd cc
    by (Rule x y body ∷ items) b h = absurd cc
    by (Glue x y z w body ∷ items) b h = absurd cc
    by (Kern x body ∷ items) b h = absurd cc
    by (Penalty x body ∷ items) b h = absurd cc
    by (Insert x y body ∷ items) b h = absurd cc
    by (Carry body ∷ items) b h = absurd cc

-- ---- fronts from a place on

pub at_fronts : (all : List Block) (at : Place) (q : List ℕ) → ((n : ℕ) → AllByRecursion IsBlock (drop n all)) →
    front_count (flat_items_at all at q)
    ≡ named (blocks_at all at) q + (choices (blocks_at all at) - length q)
at_fronts all at q each = by at.index
  where
    by : (i : ℕ) →
        front_count (if i == 0 then flat_items_from at.block (drop at.block all) q
        else drop i (variant_flat_items at.block at.variant (items_around all at))
        ++ flat_items_from (at.block + 1) (drop (at.block + 1) all) q)
        ≡ named (drop (if i == 0 then at.block else at.block + 1) all) q
        + (choices (drop (if i == 0 then at.block else at.block + 1) all) - length q)
    by zero = fronts_from at.block (drop at.block all) q (each at.block)
    by (suc i) =
        let parts = front_append (drop (suc i) (variant_flat_items at.block at.variant (items_around all at)))
        (flat_items_from (at.block + 1) (drop (at.block + 1) all) q) in
        let none = inner_none i at.block at.variant (items_around all at) in
        let rest = fronts_from (at.block + 1) (drop (at.block + 1) all) q (each (at.block + 1)) in
        rw (suc_not i) (parts ∙ omega (arith, none, rest))

at_spent : (all : List Block) (at : Place) → ((n : ℕ) → AllByRecursion IsBlock (drop n all)) →
    list_all is_discardable (map item_of (flat_items_at all at [])) ≡ true → choices (blocks_at all at) ≡ 0
at_spent all at each = by at.index
  where
    later : (xs : List FlatItem) → list_all is_discardable (map item_of
        (xs ++ flat_items_from (at.block + 1) (drop (at.block + 1) all) [])) ≡ true →
        choices (drop (at.block + 1) all) ≡ 0
    later [] h = spent_none (at.block + 1) (drop (at.block + 1) all) (each (at.block + 1)) h
    later (x ∷ xs) h = later xs (both_of (is_discardable x.item) _ h).1

    by : (i : ℕ) →
        list_all is_discardable (map item_of (if i == 0 then flat_items_from at.block (drop at.block all) []
        else drop i (variant_flat_items at.block at.variant (items_around all at))
        ++ flat_items_from (at.block + 1) (drop (at.block + 1) all) [])) ≡ true →
        choices (drop (if i == 0 then at.block else at.block + 1) all) ≡ 0
    by zero h = spent_none at.block (drop at.block all) (each at.block) h
    by (suc i) h = behind (suc i == 0) (suc_not i) h
      where
        behind : (b : Bool) → b ≡ false →
            list_all is_discardable (map item_of (if b then flat_items_from at.block (drop at.block all) []
            else drop (suc i) (variant_flat_items at.block at.variant (items_around all at))
            ++ flat_items_from (at.block + 1) (drop (at.block + 1) all) [])) ≡ true →
            choices (drop (if b then at.block else at.block + 1) all) ≡ 0
        behind true e h = absurd cc
        behind false e h =
            later (drop (suc i) (variant_flat_items at.block at.variant (items_around all at))) h

-- ---- along the columns

column_fronts : (it : ColumnContext) → Fits it → front_count (column_items it) ≡ length it.column.picks
column_fronts it f =
    subst (λ (o : Option ℕ). front_count (option_map_or (λ (n : ℕ). take n (flat_items_of it)) o [])
    ≡ length it.column.picks) (sym f.is) f.fronts_are

-- of the choices from one place on, as many are behind another as there are no picks for
pub record Passes (from to : List Block) (picks : List ℕ) : Type 0 where
  pub count : choices from ≡ length picks + choices to
  pub each : (q : List ℕ) → named from (picks ++ q) ≡ length picks + named to q

module _ (doc : Document) (blocks : AllByRecursion IsBlock doc.blocks) where
  column_passes : (m : PageMove) (ms : List PageMove) → Chained doc (m ∷ ms) →
      Passes (blocks_at doc.blocks m.column.from) (blocks_at doc.blocks m.column.to) m.column.picks
  column_passes m ms c = record { count = count; each = each }
    where
      here : List Block
      here = blocks_at doc.blocks m.column.from

      there : List Block
      there = blocks_at doc.blocks m.column.to

      f : Fits (context doc m ms)
      f = fits_of (context doc m ms) (chain_fits doc blocks m ms c.0)

      drops : (n : ℕ) → AllByRecursion IsBlock (drop n doc.blocks)
      drops n = all_drop IsBlock n doc.blocks blocks

      fronts_cut : (q : List ℕ) →
          named (blocks_at doc.blocks m.column.from) (m.column.picks ++ q)
          + (choices (blocks_at doc.blocks m.column.from) - (length m.column.picks + length q))
          ≡ length m.column.picks
          + (named (blocks_at doc.blocks m.column.to) q + (choices (blocks_at doc.blocks m.column.to) - length q))
      fronts_cut q =
          let cut = ap front_count (column_splits doc blocks m ms q c) in
          let parts = front_append (column_items (context doc m ms)) (flat_items_at doc.blocks m.column.to q) in
          let own = column_fronts (context doc m ms) f in
          let before = at_fronts doc.blocks m.column.from (m.column.picks ++ q) drops in
          let after = at_fronts doc.blocks m.column.to q drops in
          let long = length-append m.column.picks q in
          let total : front_count (flat_items_at doc.blocks m.column.from (m.column.picks ++ q))
          ≡ named (blocks_at doc.blocks m.column.from) (m.column.picks ++ q)
          + (choices (blocks_at doc.blocks m.column.from) - (length m.column.picks + length q)) =
          before ∙ ap (λ (k : ℕ). named (blocks_at doc.blocks m.column.from) (m.column.picks ++ q)
          + (choices (blocks_at doc.blocks m.column.from) - k)) long in
          sym total ∙ (cut ∙ (parts ∙ omega (arith, own, after)))

      count : choices (blocks_at doc.blocks m.column.from)
          ≡ length m.column.picks + choices (blocks_at doc.blocks m.column.to)
      count =
          let cut = fronts_cut [] in
          let same : named (blocks_at doc.blocks m.column.from) (m.column.picks ++ [])
          ≡ length m.column.picks = ap (named (blocks_at doc.blocks m.column.from)) (append-nil m.column.picks)
          ∙ f.named in
          let none = none_named (blocks_at doc.blocks m.column.to) in
          let few : length m.column.picks ≤ choices (blocks_at doc.blocks m.column.from) =
          subst (λ (k : ℕ). k ≤ choices (blocks_at doc.blocks m.column.from)) f.named
          (named_few (blocks_at doc.blocks m.column.from) m.column.picks) in
          omega (arith, cut, same, none, few)

      each : (q : List ℕ) → named (blocks_at doc.blocks m.column.from) (m.column.picks ++ q)
          ≡ length m.column.picks + named (blocks_at doc.blocks m.column.to) q
      each q = let cut = fronts_cut q in let both = count in omega (arith, cut, both)

  chain_passes : (ms : List PageMove) → Chained doc ms →
      Passes doc.blocks (blocks_at doc.blocks (place_of ms)) (picks_of ms)
  chain_passes [] c = record { count = omega arith; each = λ q. omega arith }
  chain_passes (m ∷ ms) c =
      more (subst (λ (at : Place). Passes doc.blocks (blocks_at doc.blocks at) (picks_of ms))
      (sym (chain_from doc blocks m ms c.0)) (chain_passes ms c.1)) (column_passes m ms c)
    where
      more : Passes doc.blocks (blocks_at doc.blocks m.column.from) (picks_of ms) →
          Passes (blocks_at doc.blocks m.column.from) (blocks_at doc.blocks m.column.to) m.column.picks →
          Passes doc.blocks (blocks_at doc.blocks m.column.to) (picks_of ms ++ m.column.picks)
      more before own = record {
        count = omega (arith, before.count, own.count, length-append (picks_of ms) m.column.picks);
        each = λ q. ap (named doc.blocks) (append_assoc (picks_of ms) m.column.picks q)
            ∙ omega (
              arith,
              before.each (m.column.picks ++ q),
              own.each q,
              length-append (picks_of ms) m.column.picks,
            );
      }

  pub counts_of : (ms : List PageMove) → Chained doc ms →
      list_all is_discardable (map item_of (flat_items_at doc.blocks (place_of ms) [])) ≡ true →
      (length (picks_of ms) ≡ choices doc.blocks) × (named doc.blocks (picks_of ms) ≡ choices doc.blocks)
  counts_of ms c spent =
      let passes = chain_passes ms c in
      let end = at_spent doc.blocks (place_of ms) (λ n. all_drop IsBlock n doc.blocks blocks) spent in
      let whole = ap (named doc.blocks) (append-nil (picks_of ms)) in
      let none = none_named (blocks_at doc.blocks (place_of ms)) in (
        omega (arith, passes.count, end),
        omega (arith, passes.count, passes.each [], end, whole, none),
      )
