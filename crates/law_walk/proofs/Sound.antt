-- What the walk from a place lists are candidates.
use Rattle.std.proofs.Common.{◌≡◌, refl, sym, ap, ◌∙◌, subst, ℕ, zero, suc, ◌+◌, ◌≤◌, ◌<◌, ◌⊎◌, inl, inr, List, [], ◌∷◌, ◌++◌, length, length-append, take, drop, arith, Bool, true, false, Option, Some, None, ℤ, pos, ◌+ℤ◌}
use Rattle.std.specs.Prelude.{◌&&◌, if◌then◌else◌, is_some, slice_get}
use Rattle.std.specs.List.{AllByRecursion, flat_map, list_all, position, position_from, range_with_len}
use Rattle.std.specs.Option.{option_map_or}
use Rattle.std.proofs.lemmas.Int.{ints}
use Rattle.std.proofs.lemmas.List.{append_assoc, append-nil}
use Rattle.std.proofs.lemmas.List.Folds.{list_all-append}
use Rattle.std.proofs.lemmas.Iterator.Adapters.{position_from-zero}
use Rattle.pg_list.specs.declared.item.Item.{Item}
use Rattle.pg_list.specs.declared.item.Item.TheVariants.{BoxItem, Rule, Glue, Kern, Penalty, Insert, Carry}
use Rattle.pg_list.specs.declared.blocks.Block.{Block}
use Rattle.pg_list.specs.declared.blocks.Block.TheVariants.{One, Choice}
use Rattle.pg_list.specs.declared.variants.Variant.{Variant}
use Rattle.pg_list.specs.declared.galley.Place.{Place}
use Rattle.pg_list.specs.Places.{item_at, items_around, picked_items, place}
use Rattle.pg_list.specs.Counts.{item_count}
use Rattle.pg_list.specs.Shapes.{IsBlock, IsVariant, BeginsWithBox, is_box}
use Rattle.pg_list.specs.Flat.{FlatItem, blocks_at, end_of, flat_items_at, flat_items_from, fronts, is_same_place, picked_variants, steps_to, variant_flat_items}
use Rattle.pg_list.specs.Whole.{whole_sum_by}
use Rattle.pg_breaks.specs.Near.{glue_after, near_penalty, place_penalty, solid_before}
use Rattle.pg_breaks.proofs.Lists.{get_right, get_lt}
use Rattle.law_places.specs.Past.{far}
use Rattle.pg_lemmas.proofs.Bools.{both_of, by_bool, if_true, if_false}
use Rattle.std.proofs.Math.Nat.{le_refl}
use Rattle.std.proofs.lemmas.List.{take_all}
use Rattle.law_places.proofs.Places.{around_is, begins_with, drop_head}
use Rattle.law_places.proofs.Steps.{Climbs, at_climb, steps_far}
use Rattle.law_places.proofs.Tests.{place_refl}
use Rattle.pg_list.proofs.Places.{same_place}
use Rattle.pg_rules.specs.IsState.{IsPlace}
use Rattle.pg_rules.specs.Room.{Document}
use Rattle.law_walk.specs.Best.{IsAmong}
use Rattle.law_walk.specs.Candidates.{Candidate, IsCandidate}
use Rattle.pg_column.specs.Passed.{Passed, are_within, fits, is_end_here, nothing, pass_item, pass_items}
use Rattle.law_walk.specs.Walk.{candidates_from, end_here, ends_along, first_front, first_items, past_stretch, picked_front, picked_stretch, singles, variants_at, walk_from}
use Rattle.law_walk.proofs.Complete.{StandsIn, made}
use Rattle.pg_column.proofs.Passing.{pass_append}
use Rattle.law_walk.proofs.Stretches.{IsFirst, drop_front, drop_within, first_is, first_none, front_within, fronts_left, fronts_none, fronts_right, one_front, picked_named, picked_split, variants_are}
use Rattle.law_walk.proofs.Ways.{IsFront, after_front, front_some, take_right}
use Rattle.law_walk.proofs.Whole.{first_front_is, first_within}
use Rattle.std.proofs.lemmas.Option.{same_Some}
use Rattle.pg_lemmas.proofs.Lists.{all_drop, get_left}
use Rattle.pg_column.proofs.Picks.{none_picked}
use Rattle.pg_column.specs.Judged.{is_loose_enough}

-- ---- the first place

found_from : {X : Type 0} (p : X → Bool) (xs : List X) (i n : ℕ) (x : X) → slice_get xs n ≡ Some x → p x ≡ true →
    ((k : ℕ) (y : X) → k < n → slice_get xs k ≡ Some y → p y ≡ false) → position_from p i xs ≡ Some (i + n)
found_from p [] i n x g t others = absurd cc
found_from p (y ∷ ys) i zero x g t others =
    let same : y ≡ x = cc in
    if_true (p y) (Some i) _ (ap p same ∙ t) ∙ ap Some (omega arith)
found_from p (y ∷ ys) i (suc n) x g t others =
    if_false (p y) (Some i) (position_from p (i + 1) ys) (others 0 y (omega arith) refl)
    ∙ (found_from p ys (i + 1) n x g t (λ k z h e. others (suc k) z (omega (arith, h)) e) ∙ ap Some (omega arith))

found_first : {X : Type 0} (p : X → Bool) (xs : List X) (n : ℕ) (x : X) → slice_get xs n ≡ Some x → p x ≡ true →
    ((k : ℕ) (y : X) → k < n → slice_get xs k ≡ Some y → p y ≡ false) → position p xs ≡ Some n
found_first p xs n x g t others =
    position_from-zero p xs ∙ (found_from p xs 0 n x g t others ∙ ap Some (omega arith))

module _ (blocks : List Block) where
  climb_order : (f : ℕ) (xs : List FlatItem) (k n : ℕ) (y x : FlatItem) → Climbs blocks f xs → k < n →
      slice_get xs k ≡ Some y → slice_get xs n ≡ Some x → far blocks y.place < far blocks x.place
  climb_order f [] k n y x c h a b = absurd cc
  climb_order f (z ∷ zs) k zero y x c h a b = absurd (omega (arith, h))
  climb_order f (z ∷ zs) zero (suc n) y x c h a b =
      let same : z ≡ y = same_Some z y a in
      let m : far blocks z.place ≡ far blocks y.place = ap (λ (w : FlatItem). far blocks w.place) same in
      let r = climb_from (far blocks z.place + 1) zs n x c.1 b in
      omega (arith, m, r)
    where
      climb_from : (f : ℕ) (xs : List FlatItem) (n : ℕ) (x : FlatItem) → Climbs blocks f xs →
          slice_get xs n ≡ Some x → f ≤ far blocks x.place
      climb_from f [] n x c e = absurd cc
      climb_from f (z ∷ zs) zero x c e =
          let m : far blocks z.place ≡ far blocks x.place =
          ap (λ (w : FlatItem). far blocks w.place) (same_Some z x e) in
          let g : f ≤ far blocks z.place = c.0 in omega (arith, m, g)
      climb_from f (z ∷ zs) (suc n) x c e =
          let g : f ≤ far blocks z.place = c.0 in
          let r = climb_from (far blocks z.place + 1) zs n x c.1 e in omega (arith, g, r)
  climb_order f (z ∷ zs) (suc k) (suc n) y x c h a b =
      climb_order (far blocks z.place + 1) zs k n y x c.1 (omega (arith, h)) a b

  climb_within : (f : ℕ) (xs : List FlatItem) (n : ℕ) (x : FlatItem) → Climbs blocks f xs →
      slice_get xs n ≡ Some x → far blocks x.place < item_count blocks
  climb_within f [] n x c e = absurd cc
  climb_within f (z ∷ zs) zero x c e =
      let m : far blocks z.place ≡ far blocks x.place =
      ap (λ (w : FlatItem). far blocks w.place) (same_Some z x e) in
      let r = last (far blocks z.place + 1) zs c.1 in omega (arith, m, r)
    where
      last : (f : ℕ) (xs : List FlatItem) → Climbs blocks f xs → f ≤ item_count blocks
      last f [] c = c
      last f (w ∷ ws) c = let g : f ≤ far blocks w.place = c.0 in
          let r = last (far blocks w.place + 1) ws c.1 in omega (arith, g, r)
  climb_within f (z ∷ zs) (suc n) x c e = climb_within (far blocks z.place + 1) zs n x c.1 e

  not_same_far : (a b : Place) → far blocks a < far blocks b → is_same_place a b ≡ false
  not_same_far a b h = by_bool (is_same_place a b)
      (λ t. absurd (let e : far blocks a ≡ far blocks b = ap (far blocks) (same_place a b t) in omega (arith, h, e)))
      (λ f. f)

  -- the item at an offset stands at its place first
  pub steps_at : (from : Place) (picks : List ℕ) (n : ℕ) (x : FlatItem) → IsPlace blocks from →
      slice_get (flat_items_at blocks from picks) n ≡ Some x →
      steps_to blocks (flat_items_at blocks from picks) x.place ≡ Some n
  steps_at from picks n x at g =
      let c : Climbs blocks (far blocks from) (flat_items_at blocks from picks) = at_climb blocks from picks at in
      let w = climb_within (far blocks from) (flat_items_at blocks from picks) n x c g in
      let end : far blocks (end_of blocks) ≡ item_count blocks =
      let e : item_count (take (length blocks) blocks) ≡ item_count blocks =
      ap item_count (take_all _ blocks (le_refl _)) in omega (arith, e) in
      if_false (is_same_place x.place (end_of blocks)) _ _
      (not_same_far x.place (end_of blocks) (omega (arith, w, end)))
      ∙ found_first (λ (y : FlatItem). is_same_place y.place x.place) (flat_items_at blocks from picks) n x g
      (place_refl x.place)
      (λ k y h e. not_same_far y.place x.place
      (climb_order (far blocks from) (flat_items_at blocks from picks) k n y x c h e g))

-- ---- no column ends at the front of a choice

pub box_none : (item : Item) (solid glue : Bool) → is_box item ≡ true → near_penalty (Some item) solid glue ≡ None
box_none (BoxItem h d b) solid glue e = refl
box_none (Rule h d b) solid glue e = refl
box_none (Glue w s o k b) solid glue e = absurd cc
box_none (Kern w b) solid glue e = absurd cc
box_none (Penalty v b) solid glue e = absurd cc
box_none (Insert c z b) solid glue e = absurd cc
box_none (Carry b) solid glue e = absurd cc

first_box : (variants : List Variant) → AllByRecursion IsVariant variants → 1 ≤ length variants →
    (item : Item) × ((slice_get (picked_items (Choice variants) 0) 0 ≡ Some item) × (is_box item ≡ true))
first_box [] a h = absurd (omega (arith, h))
first_box (v ∷ vs) a h = by v.items a.0.begins
  where
    by : (items : List Item) → BeginsWithBox items →
        (item : Item) × ((slice_get items 0 ≡ Some item) × (is_box item ≡ true))
    by [] b = absurd b
    by (item ∷ items) b = (item, (refl, b))

module _ (doc : Document) (top : ℤ) (all : AllByRecursion IsBlock doc.blocks) (from : Place)
    (at : IsPlace doc.blocks from) where
  front_none : (b : ℕ) (variants : List Variant) (bs : List Block) → drop b doc.blocks ≡ Choice variants ∷ bs →
      AllByRecursion IsBlock (Choice variants ∷ bs) → place_penalty doc.blocks (place b 0 0) ≡ None
  front_none b variants bs e a =
      let first = first_box variants a.0.shape.each a.0.shape.some in
      let item : item_at doc.blocks (place b 0 0) ≡ Some first.0 =
      ap (λ (items : List Item). slice_get items 0)
      (around_is doc.blocks (Choice variants) b 0 0 (drop_head b doc.blocks bs (Choice variants) e).0) ∙ first.1.0 in
      ap (λ (o : Option Item). near_penalty o (solid_before doc.blocks (place b 0 0))
      (glue_after doc.blocks (place b 0 0))) item
      ∙ box_none first.0 (solid_before doc.blocks (place b 0 0)) (glue_after doc.blocks (place b 0 0)) first.1.1

  no_end : (r : Passed) (to : Place) → place_penalty doc.blocks to ≡ None → is_end_here doc.blocks r to ≡ true → ⊥
  no_end r to e h =
      let k : is_some (place_penalty doc.blocks to) ≡ true =
      (both_of r.totals.has_box (is_some (place_penalty doc.blocks to)) h).1 in
      let n : is_some (place_penalty doc.blocks to) ≡ false = ap is_some e in
      let f : true ≡ false = sym k ∙ n in cc

  -- ---- what is listed along a stretch

  pub record IsAlong (picks : List ℕ) (d : ℤ) (b : ℕ) (p : Passed) (xs : List FlatItem) (c : Candidate) : Type 0
    where
      pub to : Place
      pub passed : Passed
      pub k : ℕ
      pub is : c ≡ made doc top to picks passed d
      pub stands : StandsIn xs b k to
      pub passes : pass_items doc p (take k xs) ≡ Some passed
      pub ends : is_end_here doc.blocks passed to ≡ true
      pub limits : are_within doc.style passed ≡ true

  listed_here : (picks : List ℕ) (d : ℤ) (to : Place) (p : Passed) (c : Candidate) →
      IsAmong c (end_here doc picks d to p) → (c ≡ made doc top to picks p d)
      × ((is_end_here doc.blocks p to ≡ true) × (are_within doc.style p ≡ true))
  listed_here picks d to p c m = by (is_end_here doc.blocks p to && are_within doc.style p) refl m
    where
      by : (b : Bool) → (is_end_here doc.blocks p to && are_within doc.style p) ≡ b →
          IsAmong c (if b then made doc top to picks p d ∷ [] else []) → (c ≡ made doc top to picks p d)
          × ((is_end_here doc.blocks p to ≡ true) × (are_within doc.style p ≡ true))
      by true e (inl q) = (sym q, both_of (is_end_here doc.blocks p to) (are_within doc.style p) e)
      by true e (inr q) = absurd q
      by false e q = absurd q

  among_cases : {X : Type 0} (x : X) (xs ys : List X) → IsAmong x (xs ++ ys) → IsAmong x xs ⊎ IsAmong x ys
  among_cases x [] ys a = inr a
  among_cases x (z ∷ xs) ys (inl e) = inl (inl e)
  among_cases x (z ∷ xs) ys (inr a) = elim (among_cases x xs ys a) [ inl p ↦ inl (inr p) | inr p ↦ inr p ]

  pub listed_along : (picks : List ℕ) (d : ℤ) (b : ℕ) (p : Passed) (xs : List FlatItem) (c : Candidate) →
      IsAmong c (ends_along doc top picks d (place b 0 0) p xs) → IsAlong picks d b p xs c
  listed_along picks d b p [] c m =
      let h = listed_here picks d (place b 0 0) p c m in record {
        to = place b 0 0;
        passed = p;
        k = 0;
        is = h.0;
        stands = inr (refl, refl);
        passes = refl;
        ends = h.1.0;
        limits = h.1.1;
      }
  listed_along picks d b p (x ∷ xs) c m =
      elim (among_cases c (end_here doc picks d x.place p) _ m) [
        | inl n ↦
            let h = listed_here picks d x.place p c n in record {
              to = x.place;
              passed = p;
              k = 0;
              is = h.0;
              stands = inl (x, (refl, refl));
              passes = refl;
              ends = h.1.0;
              limits = h.1.1;
            }
        | inr n ↦ by (pass_item doc p x) refl n (λ q l. listed_along picks d b q xs c l)
      ]
    where
      longer : (q : Passed) → pass_item doc p x ≡ Some q → IsAlong picks d b q xs c → IsAlong picks d b p (x ∷ xs) c
      longer q e l = record {
        to = l.to;
        passed = l.passed;
        k = suc l.k;
        is = l.is;
        stands = next l.stands;
        passes = ap (λ (o : Option Passed). option_map_or (λ (r : Passed). pass_items doc r (take l.k xs)) o None) e
            ∙ l.passes;
        ends = l.ends;
        limits = l.limits;
      }
        where
          next : StandsIn xs b l.k l.to → StandsIn (x ∷ xs) b (suc l.k) l.to
          next (inl s) = inl s
          next (inr (a, t)) = inr (ap suc a, t)

      by : (o : Option Passed) → pass_item doc p x ≡ o →
          IsAmong c (option_map_or
          (λ (q : Passed). if fits q.bound top then ends_along doc top picks d (place b 0 0) q xs else []) o []) →
          ((q : Passed) → IsAmong c (ends_along doc top picks d (place b 0 0) q xs) → IsAlong picks d b q xs c) →
          IsAlong picks d b p (x ∷ xs) c
      by None e n more = absurd n
      by (Some q) e n more = inside (fits q.bound top) n
        where
          inside : (t : Bool) → IsAmong c (if t then ends_along doc top picks d (place b 0 0) q xs else []) →
              IsAlong picks d b p (x ∷ xs) c
          inside true l = longer q e (more q l)
          inside false l = absurd l

  -- ---- before a stretch

  abbrev pub behind : ℕ → List ℕ → List FlatItem
  behind b qs = flat_items_from b (drop b doc.blocks) qs

  -- at a front: what stands before it, and which variants were picked
  pub record IsAt (picks : List ℕ) (b : ℕ) (p : Passed) (d : ℤ) : Type 0 where
    pub xs : List FlatItem
    pub variants : List Variant
    pub split : (later : List ℕ) → flat_items_at doc.blocks from (picks ++ later) ≡ xs ++ behind b later
    pub counted : fronts xs (length xs) ≡ length picks
    pub named : (later : List ℕ) → picked_variants (blocks_at doc.blocks from) (picks ++ later)
        ≡ variants ++ picked_variants (drop b doc.blocks) later
    pub many : length variants ≡ length picks
    pub loose : list_all (is_loose_enough doc.style) variants ≡ true
    pub pays : d ≡ whole_sum_by (λ (v : Variant). pos v.demerits) variants
    pub passes : pass_items doc nothing xs ≡ Some p
    pub below : b ≤ length doc.blocks
    pub front : IsFront (drop b doc.blocks)

  -- the same before a stretch with the front b behind it
  pub record IsBefore (picks : List ℕ) (b : ℕ) (p : Passed) (d : ℤ) (zs : List FlatItem) : Type 0 where
    pub xs : List FlatItem
    pub variants : List Variant
    pub split : (later : List ℕ) → flat_items_at doc.blocks from (picks ++ later) ≡ xs ++ (zs ++ behind b later)
    pub counted : (k : ℕ) → 1 ≤ k → fronts xs (length xs) + fronts zs k ≡ length picks
    pub full : fronts xs (length xs) + fronts zs (length zs) ≡ length picks
    pub begins : (xs ≡ []) ⊎ ((0 < length zs)
        × ((x : FlatItem) → slice_get zs 0 ≡ Some x → place_penalty doc.blocks x.place ≡ None))
    pub named : (later : List ℕ) → picked_variants (blocks_at doc.blocks from) (picks ++ later)
        ≡ variants ++ picked_variants (drop b doc.blocks) later
    pub many : length variants ≡ length picks
    pub loose : list_all (is_loose_enough doc.style) variants ≡ true
    pub pays : d ≡ whole_sum_by (λ (v : Variant). pos v.demerits) variants
    pub passes : pass_items doc nothing xs ≡ Some p
    pub below : b ≤ length doc.blocks
    pub front : IsFront (drop b doc.blocks)

  end_at : (b : ℕ) → drop b doc.blocks ≡ [] → b ≤ length doc.blocks → b ≡ length doc.blocks
  end_at b e h = let l = past b doc.blocks e in omega (arith, l, h)
    where
      past : {X : Type 0} (n : ℕ) (xs : List X) → drop n xs ≡ [] → length xs ≤ n
      past zero [] e = omega arith
      past zero (x ∷ xs) e = absurd cc
      past (suc n) [] e = omega arith
      past (suc n) (x ∷ xs) e = let r = past n xs e in omega (arith, r)

  pub candidate_is : (picks : List ℕ) (b : ℕ) (p : Passed) (d : ℤ) (zs : List FlatItem) (c : Candidate) →
      IsBefore picks b p d zs → IsAlong picks d b p zs c → IsCandidate doc from c
  candidate_is picks b p d zs c o l = subst (IsCandidate doc from) (sym l.is) (record {
    apart = by_bool (is_same_place from l.to)
        (λ t. absurd (
        let m = steps_far doc.blocks from l.to picks n at steps in
        let s : far doc.blocks from ≡ far doc.blocks l.to = ap (far doc.blocks) (same_place from l.to t) in
        let w = some in
        omega (arith, m, s, w)
        ))
        (λ f. f);
    size = n;
    leads = steps;
    fronts_are = count;
    named = ap length those ∙ o.many;
    passes = passed;
    ends = l.ends;
    limits = l.limits;
    loose = ap (list_all (is_loose_enough doc.style)) those ∙ o.loose;
    demerits = o.pays ∙ sym (ap (whole_sum_by (λ (v : Variant). pos v.demerits)) those);
  })
    where
      n : ℕ
      n = length o.xs + l.k

      nil : picks ++ [] ≡ picks
      nil = append-nil picks

      whole : flat_items_at doc.blocks from picks ≡ o.xs ++ (zs ++ behind b [])
      whole = ap (flat_items_at doc.blocks from) (sym nil) ∙ o.split []

      those : picked_variants (blocks_at doc.blocks from) picks ≡ o.variants
      those = ap (picked_variants (blocks_at doc.blocks from)) (sym nil)
          ∙ (o.named [] ∙ (ap (λ (vs : List Variant). o.variants ++ vs) (none_picked (drop b doc.blocks))
          ∙ append-nil o.variants))

      short : l.k ≤ length zs
      short = by l.stands
        where
          by : StandsIn zs b l.k l.to → l.k ≤ length zs
          by (inl (x, g)) = let m = get_lt zs l.k x g.0 in omega (arith, m)
          by (inr (e, t)) = omega (arith, e)

      passed : pass_items doc nothing (take n (flat_items_at doc.blocks from picks)) ≡ Some l.passed
      passed = ap (λ (ys : List FlatItem). pass_items doc nothing (take n ys)) whole
          ∙ (ap (pass_items doc nothing) (take_right n l.k o.xs (zs ++ behind b []) refl)
          ∙ (pass_append doc nothing o.xs (take l.k (zs ++ behind b []))
          ∙ (ap (λ (q : Option Passed). option_map_or
          (λ (r : Passed). pass_items doc r (take l.k (zs ++ behind b []))) q None) o.passes
          ∙ (ap (pass_items doc p) (take_left l.k zs (behind b []) short) ∙ l.passes))))
        where
          take_left : {X : Type 0} (n : ℕ) (xs ys : List X) → n ≤ length xs → take n (xs ++ ys) ≡ take n xs
          take_left zero xs ys h = refl
          take_left (suc n) [] ys h = absurd (omega (arith, h))
          take_left (suc n) (x ∷ xs) ys h = ap (λ zs. x ∷ zs) (take_left n xs ys (omega (arith, h)))

      -- nothing ends before the first item
      some_of : (m : ℕ) → pass_items doc nothing (take m (flat_items_at doc.blocks from picks)) ≡ Some l.passed → 1 ≤ m
      some_of zero e = absurd (
          let s : nothing ≡ l.passed = same_Some nothing l.passed e in
          let f : is_end_here doc.blocks nothing l.to ≡ true = ap (λ (r : Passed). is_end_here doc.blocks r l.to) s ∙
          l.ends in
          cc
          )
      some_of (suc m) e = omega arith

      some : 1 ≤ n
      some = some_of n passed

      steps : steps_to doc.blocks (flat_items_at doc.blocks from picks) l.to ≡ Some n
      steps = by l.stands
        where
          last : drop b doc.blocks ≡ [] → l.k ≡ length zs → l.to ≡ place b 0 0 →
              steps_to doc.blocks (flat_items_at doc.blocks from picks) l.to ≡ Some n
          last e k t =
              let same : l.to ≡ end_of doc.blocks = t ∙ ap (λ (z : ℕ). place z 0 0) (end_at b e o.below) in
              let long : length (flat_items_at doc.blocks from picks) ≡ n =
              let w = ap length whole in
              let u = length-append o.xs (zs ++ behind b []) in
              let v = length-append zs (behind b []) in
              let z : length (behind b []) ≡ 0 = ap (λ (bs : List Block). length (flat_items_from b bs [])) e in
              omega (arith, w, u, v, z, k) in
              if_true (is_same_place l.to (end_of doc.blocks)) _ _
              (ap (λ (q : Place). is_same_place q (end_of doc.blocks)) same ∙ place_refl (end_of doc.blocks))
              ∙ ap Some long

          fronts_here : (bs : List Block) → drop b doc.blocks ≡ bs → IsFront bs → AllByRecursion IsBlock bs →
              l.k ≡ length zs → l.to ≡ place b 0 0 →
              steps_to doc.blocks (flat_items_at doc.blocks from picks) l.to ≡ Some n
          fronts_here [] e f a k t = last e k t
          fronts_here (One item ∷ bs) e f a k t = absurd f
          fronts_here (Choice variants ∷ bs) e f a k t = absurd (no_end l.passed l.to
              (ap (place_penalty doc.blocks) t ∙ front_none b variants bs e a) l.ends)

          by : StandsIn zs b l.k l.to → steps_to doc.blocks (flat_items_at doc.blocks from picks) l.to ≡ Some n
          by (inl (x, g)) =
              let there : slice_get (flat_items_at doc.blocks from picks) n ≡ Some x =
              ap (λ (ys : List FlatItem). slice_get ys n) whole
              ∙ (get_right o.xs (zs ++ behind b []) n l.k refl
              ∙ (get_left zs (behind b []) l.k (get_lt zs l.k x g.0) ∙ g.0)) in
              ap (λ (q : Place). steps_to doc.blocks (flat_items_at doc.blocks from picks) q) (sym g.1)
              ∙ steps_at doc.blocks from picks n x at there
          by (inr (k, t)) =
              fronts_here (drop b doc.blocks) refl o.front (all_drop IsBlock b doc.blocks all) k t

      count : fronts (flat_items_at doc.blocks from picks) n ≡ length picks
      count = by l.k refl
        where
          split_count : fronts (flat_items_at doc.blocks from picks) n ≡ fronts o.xs (length o.xs) + fronts zs l.k
          split_count = ap (λ (ys : List FlatItem). fronts ys n) whole
              ∙ (fronts_right o.xs (zs ++ behind b []) n l.k refl
              ∙ ap (λ (m : ℕ). fronts o.xs (length o.xs) + m) (fronts_left zs (behind b []) l.k short))

          first_stands : l.k ≡ 0 → (0 < length zs) →
              ((x : FlatItem) → slice_get zs 0 ≡ Some x → place_penalty doc.blocks x.place ≡ None) →
              StandsIn zs b l.k l.to → ⊥
          first_stands e h f (inl (x, g)) = no_end l.passed l.to
              (ap (place_penalty doc.blocks) (sym g.1) ∙ f x (ap (slice_get zs) (sym e) ∙ g.0)) l.ends
          first_stands e h f (inr (k, t)) = omega (arith, e, h, k)

          by : (k : ℕ) → k ≡ l.k → fronts (flat_items_at doc.blocks from picks) n ≡ length picks
          by zero e = elim o.begins [
            | inl none ↦ absurd (
                let z : length o.xs ≡ 0 = ap length none in let w = some in omega (arith, z, w, e)
                )
            | inr (h, f) ↦ absurd (first_stands (sym e) h f l.stands)
          ]
          by (suc k) e = split_count ∙ o.counted l.k (omega (arith, e))

  -- ---- past a stretch, and a pick

  pub past_before : (picks : List ℕ) (b : ℕ) (p s : Passed) (d : ℤ) (zs : List FlatItem) →
      IsBefore picks b p d zs → past_stretch doc top p zs ≡ Some s → IsAt picks b s d
  past_before picks b p s d zs o e = by (pass_items doc p zs) refl e
    where
      by : (q : Option Passed) → pass_items doc p zs ≡ q →
          option_map_or (λ (r : Passed). if fits r.bound top then Some r else None) q None ≡ Some s → IsAt picks b s d
      by None k h = absurd cc
      by (Some r) k h = inside (fits r.bound top) h
        where
          inside : (t : Bool) → (if t then Some r else None) ≡ Some s → IsAt picks b s d
          inside false h = absurd cc
          inside true h = record {
            xs = o.xs ++ zs;
            variants = o.variants;
            split = λ later. o.split later ∙ sym (append_assoc o.xs zs (behind b later));
            counted = counted;
            named = o.named;
            many = o.many;
            loose = o.loose;
            pays = o.pays;
            passes = pass_append doc nothing o.xs zs
                ∙ (ap (λ (q : Option Passed). option_map_or (λ (u : Passed). pass_items doc u zs) q None) o.passes
                ∙ (k ∙ h));
            below = o.below;
            front = o.front;
          }
            where
              counted : fronts (o.xs ++ zs) (length (o.xs ++ zs)) ≡ length picks
              counted =
                  ap (fronts (o.xs ++ zs)) (length-append o.xs zs)
                  ∙ (fronts_right o.xs zs (length o.xs + length zs) (length zs) refl ∙ o.full)

  no_variants : (n : ℕ) (blocks : List Block) → length blocks ≤ n → variants_at blocks n ≡ []
  no_variants n [] h = refl
  no_variants zero (x ∷ blocks) h = absurd (omega (arith, h))
  no_variants (suc n) (x ∷ blocks) h = no_variants n blocks (omega (arith, h))

  sum_append : (f : Variant → ℤ) (xs : List Variant) (x : Variant) →
      whole_sum_by f (xs ++ x ∷ []) ≡ whole_sum_by f xs +ℤ f x
  sum_append f [] x = omega (arith, ints)
  sum_append f (y ∷ xs) x = let r = sum_append f xs x in omega (arith, ints, r)

  one_named : (o : Option Variant) (v : Variant) (vs : List Variant) → o ≡ Some v →
      option_map_or (λ (variant : Variant). variant ∷ []) o [] ++ vs ≡ v ∷ vs
  one_named o v vs e = rw e refl

  front_begins : (n v : ℕ) (items : List Item) (ys : List FlatItem) (x : FlatItem) → 0 < length items →
      slice_get (variant_flat_items n v items ++ ys) 0 ≡ Some x → x.place ≡ place n 0 0
  front_begins n v [] ys x h e = absurd (omega (arith, h))
  front_begins n v (item ∷ items) ys x h e =
      let same : ◌≡◌ {A = FlatItem} (record { place = place n 0 0; item = item; is_front = true }) x = cc in
      sym (ap (λ (y : FlatItem). y.place) same)

  all_true : (b c : Bool) → b ≡ true → c ≡ true → (b && c) ≡ true
  all_true true c p q = q
  all_true false c p q = absurd cc

  pub before_pick : (picks : List ℕ) (b q : ℕ) (s : Passed) (d : ℤ) (v : Variant) → IsAt picks b s d →
      slice_get (variants_at doc.blocks b) q ≡ Some v → is_loose_enough doc.style v ≡ true →
      IsBefore (picks ++ q ∷ []) (picked_front doc.blocks b) s (d +ℤ pos v.demerits) (picked_stretch doc.blocks b q)
  before_pick picks b q s d v o there loose =
      by (drop b doc.blocks) refl o.front (all_drop IsBlock b doc.blocks all)
    where
      by : (bs : List Block) → drop b doc.blocks ≡ bs → IsFront bs → AllByRecursion IsBlock bs →
          IsBefore (picks ++ q ∷ []) (picked_front doc.blocks b) s (d +ℤ pos v.demerits) (picked_stretch doc.blocks b q)
      by [] e f a = absurd (
          let l = end_at b e o.below in
          let none = no_variants b doc.blocks (omega (arith, l)) in
          let k : slice_get [] q ≡ Some v = subst (λ (vs : List Variant). slice_get vs q ≡ Some v) none there in cc
          )
      by (One item ∷ bs) e f a = absurd f
      by (Choice variants ∷ bs) e f a = record {
        xs = o.xs;
        variants = o.variants ++ v ∷ [];
        split = λ later. ap (flat_items_at doc.blocks from) (append_assoc picks (q ∷ []) later)
            ∙ (o.split (q ∷ later)
            ∙ ap (λ (ys : List FlatItem). o.xs ++ ys)
            (ap (λ (cs : List Block). flat_items_from b cs (q ∷ later)) e
            ∙ picked_split doc.blocks b variants bs q later e));
        counted = λ k h.
            let c = o.counted in
            let w = one_front b q (items_around doc.blocks (place b q 0)) (drop (b + 1) doc.blocks) (b + 1) k some h in
            let l = length-append picks (q ∷ []) in
            omega (arith, c, w, l);
        full =
            let c = o.counted in
            let w = one_front b q (items_around doc.blocks (place b q 0)) (drop (b + 1) doc.blocks) (b + 1)
            (length (picked_stretch doc.blocks b q)) some long in
            let l = length-append picks (q ∷ []) in
            omega (arith, c, w, l);
        begins = inr (
          long,
          λ x g. ap (place_penalty doc.blocks) (front_begins b q (items_around doc.blocks (place b q 0))
              (singles (b + 1) (drop (b + 1) doc.blocks)) x some g) ∙ front_none b variants bs e a,
        );
        named = λ later. ap (picked_variants (blocks_at doc.blocks from)) (append_assoc picks (q ∷ []) later)
            ∙ (o.named (q ∷ later)
            ∙ (ap (λ (vs : List Variant). o.variants ++ vs)
            (ap (λ (cs : List Block). picked_variants cs (q ∷ later)) e
            ∙ (one_named (slice_get variants q) v (picked_variants bs later) own
            ∙ ap (λ (vs : List Variant). v ∷ vs) (picked_named doc.blocks b bs (Choice variants) later e)))
            ∙ sym (append_assoc o.variants (v ∷ [])
            (picked_variants (drop (picked_front doc.blocks b) doc.blocks) later))));
        many = let m = length-append o.variants (v ∷ []) in let l = length-append picks (q ∷ []) in
            let w = o.many in omega (arith, m, l, w);
        loose = list_all-append (is_loose_enough doc.style) o.variants (v ∷ [])
            ∙ all_true (list_all (is_loose_enough doc.style) o.variants)
            (list_all (is_loose_enough doc.style) (v ∷ [])) o.loose
            (all_true (is_loose_enough doc.style v) true loose refl);
        pays = ap (λ (z : ℤ). z +ℤ pos v.demerits) o.pays
            ∙ sym (sum_append (λ (w : Variant). pos w.demerits) o.variants v);
        passes = o.passes;
        below = front_within doc.blocks (b + 1) (drop (b + 1) doc.blocks) refl
            (let w = drop_within b doc.blocks bs (Choice variants) e in omega (arith, w));
        front = subst IsFront (sym (drop_front doc.blocks (b + 1) (drop (b + 1) doc.blocks) refl))
            (after_front (drop (b + 1) doc.blocks));
      }
        where
          own : slice_get variants q ≡ Some v
          own = ap (λ (vs : List Variant). slice_get vs q) (sym (variants_are doc.blocks b variants bs e)) ∙ there

          some : 0 < length (items_around doc.blocks (place b q 0))
          some = subst (λ (items : List Item). 0 < length items)
              (sym (around_is doc.blocks (Choice variants) b q 0 (drop_head b doc.blocks bs (Choice variants) e).0))
              (begins_with variants q v a.0.shape.each own)

          long : 0 < length (picked_stretch doc.blocks b q)
          long = front_some b q (items_around doc.blocks (place b q 0)) (singles (b + 1) (drop (b + 1) doc.blocks)) some

  -- the picked variant has items
  pub own_items : (picks : List ℕ) (b q : ℕ) (s : Passed) (d : ℤ) (v : Variant) → IsAt picks b s d →
      slice_get (variants_at doc.blocks b) q ≡ Some v → 0 < length (items_around doc.blocks (place b q 0))
  own_items picks b q s d v o there = by (drop b doc.blocks) refl o.front (all_drop IsBlock b doc.blocks all)
    where
      by : (bs : List Block) → drop b doc.blocks ≡ bs → IsFront bs → AllByRecursion IsBlock bs →
          0 < length (items_around doc.blocks (place b q 0))
      by [] e f a = absurd (
          let l = end_at b e o.below in
          let none = no_variants b doc.blocks (omega (arith, l)) in
          let k : slice_get [] q ≡ Some v = subst (λ (vs : List Variant). slice_get vs q ≡ Some v) none there in cc
          )
      by (One item ∷ bs) e f a = absurd f
      by (Choice variants ∷ bs) e f a = subst (λ (items : List Item). 0 < length items)
          (sym (around_is doc.blocks (Choice variants) b q 0 (drop_head b doc.blocks bs (Choice variants) e).0))
          (begins_with variants q v a.0.shape.each
          (ap (λ (vs : List Variant). slice_get vs q) (sym (variants_are doc.blocks b variants bs e)) ∙ there))

  -- ---- the walk

  flat_cases : {Y : Type 0} (f : ℕ → List Y) (a n : ℕ) (y : Y) → IsAmong y (flat_map f (range_with_len a n)) →
      (k : ℕ) × IsAmong y (f k)
  flat_cases f a zero y m = absurd m
  flat_cases f a (suc n) y m = elim (among_cases y (f a) (flat_map f (range_with_len (a + 1) n)) m) [
    | inl p ↦ (a, p)
    | inr p ↦ flat_cases f (a + 1) n y p
  ]

  pub walk_sound : (fuel : ℕ) (picks : List ℕ) (b : ℕ) (s : Passed) (d : ℤ) (c : Candidate) → IsAt picks b s d →
      IsAmong c (walk_from fuel doc top picks d b s) → IsCandidate doc from c
  walk_sound zero picks b s d c o m = absurd m
  walk_sound (suc fuel) picks b s d c o m =
      let it = flat_cases _ 0 (length (variants_at doc.blocks b)) c m in
      by it.0 (slice_get (variants_at doc.blocks b) it.0) refl it.1
      (λ q v r a n. walk_sound fuel (picks ++ q ∷ []) (picked_front doc.blocks b) r (d +ℤ pos v.demerits) c a n)
    where
      Again : Type 0
      Again = (q : ℕ) (v : Variant) (r : Passed) →
          IsAt (picks ++ q ∷ []) (picked_front doc.blocks b) r (d +ℤ pos v.demerits) →
          IsAmong c (walk_from fuel doc top (picks ++ q ∷ []) (d +ℤ pos v.demerits) (picked_front doc.blocks b) r) →
          IsCandidate doc from c

      Near : ℕ → Variant → List Candidate
      Near q v = ends_along doc top (picks ++ q ∷ []) (d +ℤ pos v.demerits) (place (picked_front doc.blocks b) 0 0) s
          (picked_stretch doc.blocks b q)

      Far : ℕ → Variant → Option Passed → List Candidate
      Far q v o = option_map_or
          (λ (r : Passed). walk_from fuel doc top (picks ++ q ∷ []) (d +ℤ pos v.demerits) (picked_front doc.blocks b)
          r) o []

      onward : (q : ℕ) (v : Variant) (p : Option Passed) →
          past_stretch doc top s (picked_stretch doc.blocks b q) ≡ p →
          IsBefore (picks ++ q ∷ []) (picked_front doc.blocks b) s (d +ℤ pos v.demerits)
          (picked_stretch doc.blocks b q) →
          IsAmong c (Far q v p) → Again → IsCandidate doc from c
      onward q v None e a n again = absurd n
      onward q v (Some r) e a n again =
          again q v r (past_before (picks ++ q ∷ []) (picked_front doc.blocks b) s r (d +ℤ pos v.demerits)
          (picked_stretch doc.blocks b q) a e) n

      by : (q : ℕ) (w : Option Variant) → slice_get (variants_at doc.blocks b) q ≡ w →
          IsAmong c (option_map_or (λ (v : Variant). if is_loose_enough doc.style v
          then Near q v ++ Far q v (past_stretch doc top s (picked_stretch doc.blocks b q)) else []) w []) →
          Again → IsCandidate doc from c
      by q None e n again = absurd n
      by q (Some v) e n again = loosely (is_loose_enough doc.style v) refl n
        where
          loosely : (t : Bool) → is_loose_enough doc.style v ≡ t →
              IsAmong c (if t then Near q v ++ Far q v (past_stretch doc top s (picked_stretch doc.blocks b q)) else
              []) →
              IsCandidate doc from c
          loosely false t n = absurd n
          loosely true t n =
              let a = before_pick picks b q s d v o e t in
              elim (among_cases c (Near q v) (Far q v (past_stretch doc top s (picked_stretch doc.blocks b q))) n) [
                | inl p ↦ candidate_is (picks ++ q ∷ []) (picked_front doc.blocks b) s (d +ℤ pos v.demerits)
                    (picked_stretch doc.blocks b q) c a
                    (listed_along (picks ++ q ∷ []) (d +ℤ pos v.demerits) (picked_front doc.blocks b) s
                    (picked_stretch doc.blocks b q) c p)
                | inr p ↦ onward q v (past_stretch doc top s (picked_stretch doc.blocks b q)) refl a p again
              ]

  pub start : IsBefore [] (first_front doc.blocks from) nothing (pos 0) (first_items doc.blocks from)
  start = let first : IsFirst doc.blocks from = first_is doc.blocks from in record {
    xs = [];
    variants = [];
    split = first.split;
    counted = λ k h. let z = fronts_none (first_items doc.blocks from) k (first_none doc.blocks from) in
        omega (arith, z);
    full = let z = fronts_none (first_items doc.blocks from) (length (first_items doc.blocks from))
        (first_none doc.blocks from) in omega (arith, z);
    begins = inl refl;
    named = first.named;
    many = refl;
    loose = refl;
    pays = refl;
    passes = refl;
    below = first_within doc top all from at;
    front = first_front_is doc top all from at;
  }

  pub sound : (c : Candidate) → IsAmong c (candidates_from doc top from) → IsCandidate doc from c
  unfolding candidates_from
  sound c m = elim (among_cases c (ends_along doc top [] (pos 0) (place (first_front doc.blocks from) 0 0) nothing
      (first_items doc.blocks from)) _ m) [
        | inl p ↦ candidate_is [] (first_front doc.blocks from) nothing (pos 0) (first_items doc.blocks from) c start
            (listed_along [] (pos 0) (first_front doc.blocks from) nothing (first_items doc.blocks from) c p)
        | inr p ↦ by (past_stretch doc top nothing (first_items doc.blocks from)) refl p
      ]
    where
      by : (o : Option Passed) → past_stretch doc top nothing (first_items doc.blocks from) ≡ o →
          IsAmong c (option_map_or
          (λ (p : Passed). walk_from (length doc.blocks) doc top [] (pos 0) (first_front doc.blocks from) p) o []) →
          IsCandidate doc from c
      by None e n = absurd n
      by (Some s) e n = walk_sound (length doc.blocks) [] (first_front doc.blocks from) s (pos 0) c
          (past_before [] (first_front doc.blocks from) nothing s (pos 0) (first_items doc.blocks from) start e) n
