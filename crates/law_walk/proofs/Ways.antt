-- Each candidate is reached by its picks, stretch after stretch.
use Rattle.std.proofs.Common.{◌≡◌, refl, sym, ap, ◌∙◌, subst, ℕ, zero, suc, ◌+◌, ◌-◌, ◌≤◌, ◌<◌, ◌⊎◌, inl, inr, List, [], ◌∷◌, ◌++◌, length, length-append, take, drop, arith, true, Option, Some, None, ℤ, pos, ◌+ℤ◌}
use Rattle.std.specs.Prelude.{if◌then◌else◌, slice_get, nat_lt}
use Rattle.std.specs.List.{AllByRecursion, list_all}
use Rattle.std.specs.Option.{option_map_or}
use Rattle.pg_list.specs.declared.item.Item.{Item}
use Rattle.pg_list.specs.declared.blocks.Block.{Block}
use Rattle.pg_list.specs.declared.blocks.Block.TheVariants.{One, Choice}
use Rattle.pg_list.specs.declared.variants.Variant.{Variant}
use Rattle.pg_list.specs.declared.galley.Place.{Place}
use Rattle.pg_list.specs.Places.{items_around, picked_items, place}
use Rattle.pg_list.specs.Shapes.{IsBlock}
use Rattle.pg_list.specs.Flat.{FlatItem, end_of, flat_items_from, fronts, later_flat_items, picked_variants, variant_flat_items}
use Rattle.pg_list.specs.Whole.{whole_sum_by}
use Rattle.pg_breaks.proofs.Lists.{get_right, get_lt}
use Rattle.pg_list.proofs.Places.{fronts_cons}
use Rattle.pg_lemmas.proofs.Bools.{both_of, by_bool, if_true}
use Rattle.law_places.proofs.Places.{around_is, begins, begins_with, drop_head, pick_named}
use Rattle.pg_lemmas.proofs.Numbers.{less_true, not_less}
use Rattle.pg_rules.specs.Room.{Document}
use Rattle.law_walk.specs.Candidates.{}
use Rattle.pg_column.specs.Passed.{Passed, fits, pass_items}
use Rattle.law_walk.specs.Walk.{past_stretch, picked_front, picked_stretch, singles, variants_at}
use Rattle.pg_column.proofs.Passing.{pass_append}
use Rattle.law_walk.proofs.Stretches.{after_singles, drop_front, drop_within, front_within, fronts_left, fronts_none, fronts_right, items_fit, one_front, picked_named, picked_split, variants_are}
use Rattle.law_walk.proofs.Complete.{Goes, StandsIn}
use Rattle.pg_lemmas.proofs.Lists.{all_drop, get_left}
use Rattle.pg_column.proofs.Picks.{none_picked}
use Rattle.pg_column.specs.Judged.{is_loose_enough}

take_left : {X : Type 0} (n : ℕ) (xs ys : List X) → n ≤ length xs → take n (xs ++ ys) ≡ take n xs
take_left zero xs ys h = refl
take_left (suc n) [] ys h = absurd (omega (arith, h))
take_left (suc n) (x ∷ xs) ys h = ap (λ zs. x ∷ zs) (take_left n xs ys (omega (arith, h)))

pub take_right : {X : Type 0} (n k : ℕ) (xs ys : List X) → n ≡ length xs + k → take n (xs ++ ys) ≡ xs ++ take k ys
take_right n k [] ys e = let same : n ≡ k = omega (arith, e) in ap (λ (m : ℕ). take m ys) same
take_right zero k (x ∷ xs) ys e = absurd (omega (arith, e))
take_right (suc n) k (x ∷ xs) ys e = ap (λ zs. x ∷ zs) (take_right n k xs ys (omega (arith, e)))

-- a choice, or nothing
abbrev pub IsFront : List Block → Type 0
IsFront [] = Unit {0}
IsFront (One item ∷ blocks) = ⊥
IsFront (Choice variants ∷ blocks) = Unit {0}

pub after_front : (blocks : List Block) → IsFront (after_singles blocks)
after_front [] = tt
after_front (One item ∷ blocks) = after_front blocks
after_front (Choice variants ∷ blocks) = tt

drop_past : {X : Type 0} (n : ℕ) (xs : List X) → drop n xs ≡ [] → length xs ≤ n
drop_past zero [] e = omega arith
drop_past zero (x ∷ xs) e = absurd cc
drop_past (suc n) [] e = omega arith
drop_past (suc n) (x ∷ xs) e = let r = drop_past n xs e in omega (arith, r)

-- picks behind a front: its variant, and the variants behind
one_named : (o : Option Variant) (v : Variant) (vs : List Variant) → o ≡ Some v →
    option_map_or (λ (variant : Variant). variant ∷ []) o [] ++ vs ≡ v ∷ vs
one_named o v vs e = rw e refl

front_begins : (n v : ℕ) (items : List Item) (ys : List FlatItem) (x : FlatItem) → 0 < length items →
    slice_get (variant_flat_items n v items ++ ys) 0 ≡ Some x → x.place ≡ place n 0 0
front_begins n v [] ys x h e = absurd (omega (arith, h))
front_begins n v (item ∷ items) ys x h e =
    let same : ◌≡◌ {A = FlatItem} (record { place = place n 0 0; item = item; is_front = true }) x = cc in
    sym (ap (λ (y : FlatItem). y.place) same)

front_counts : (n v : ℕ) (items : List Item) (ys : List FlatItem) (k : ℕ) → 0 < length items →
    fronts (variant_flat_items n v items ++ ys) (suc k) ≡ 0 → ⊥
front_counts n v [] ys k h e = omega (arith, h)
front_counts n v (item ∷ items) ys k h e =
    let a = fronts_cons (record { place = place n 0 0; item = item; is_front = true })
    (later_flat_items n v 1 items ++ ys) k in omega (arith, a, e)

pub front_some : (n v : ℕ) (items : List Item) (ys : List FlatItem) → 0 < length items →
    0 < length (variant_flat_items n v items ++ ys)
front_some n v [] ys h = absurd (omega (arith, h))
front_some n v (item ∷ items) ys h = omega arith

module _ (doc : Document) (top : ℤ) (all : AllByRecursion IsBlock doc.blocks) where
  abbrev pub behind : ℕ → List ℕ → List FlatItem
  behind b qs = flat_items_from b (drop b doc.blocks) qs

  abbrev pub Stands : List FlatItem → ℕ → Place → Type 0
  Stands xs n to = ((x : FlatItem) × ((slice_get xs n ≡ Some x) × (x.place ≡ to)))
      ⊎ ((n ≡ length xs) × (to ≡ end_of doc.blocks))

  -- picks that lead to a place in the items of a stretch and those from the front behind it
  pub record Leads (p : Passed) (xs : List FlatItem) (b : ℕ) (qs : List ℕ) (n : ℕ) (to : Place) (r : Passed)
      (d : ℤ) : Type 0 where
    pub below : b ≤ length doc.blocks
    pub front : IsFront (drop b doc.blocks)
    pub stands : Stands (xs ++ behind b qs) n to
    pub within : n < length xs → qs ≡ []
    pub counted : (k : ℕ) → n ≡ length xs + k → fronts (behind b qs) k ≡ length qs
    pub named : length (picked_variants (drop b doc.blocks) qs) ≡ length qs
    pub loose : list_all (is_loose_enough doc.style) (picked_variants (drop b doc.blocks) qs) ≡ true
    pub pays : d ≡ whole_sum_by (λ (v : Variant). pos v.demerits) (picked_variants (drop b doc.blocks) qs)
    pub passes : pass_items doc p (take n (xs ++ behind b qs)) ≡ Some r
    pub bound : fits r.bound top ≡ true

  none_at : (xs : List FlatItem) (x : FlatItem) (n k : ℕ) → n ≡ length xs + k →
      slice_get (xs ++ []) n ≡ Some x → ⊥
  none_at xs x n k e g = let h : slice_get [] k ≡ Some x = sym (get_right xs [] n k e) ∙ g in cc

  -- ---- no picks

  last_stands : (xs : List FlatItem) (b n k : ℕ) (to : Place) → b ≤ length doc.blocks → n ≡ length xs + k →
      IsFront (drop b doc.blocks) → Stands (xs ++ behind b []) n to → fronts (behind b []) k ≡ 0 →
      StandsIn xs b n to
  last_stands xs b n k to below e front st none =
      by (drop b doc.blocks) refl front st none (all_drop IsBlock b doc.blocks all)
    where
      by : (bs : List Block) → drop b doc.blocks ≡ bs → IsFront bs →
          Stands (xs ++ flat_items_from b bs []) n to → fronts (flat_items_from b bs []) k ≡ 0 →
          AllByRecursion IsBlock bs → StandsIn xs b n to
      by [] d f (inl (x, g)) c a = absurd (none_at xs x n k e g.0)
      by [] d f (inr (l, t)) c a =
          let m = length-append xs [] in
          let h : length doc.blocks ≡ b = let p = drop_past b doc.blocks d in omega (arith, p, below) in
          inr (omega (arith, l, m), t ∙ ap (λ (z : ℕ). place z 0 0) h)
      by (One item ∷ bs) d f st c a = absurd f
      by (Choice variants ∷ bs) d f st c a = at k e st c
        where
          some : 0 < length (picked_items (Choice variants) 0)
          some = begins variants a.0

          at : (k : ℕ) → n ≡ length xs + k →
              Stands (xs ++ flat_items_from b (Choice variants ∷ bs) []) n to →
              fronts (flat_items_from b (Choice variants ∷ bs) []) k ≡ 0 → StandsIn xs b n to
          at zero e (inl (x, g)) c = inr (
            omega (arith, e),
            sym g.1 ∙ front_begins b 0 (picked_items (Choice variants) 0) (flat_items_from (b + 1) bs []) x some
                (sym (get_right xs (flat_items_from b (Choice variants ∷ bs) []) n 0 e) ∙ g.0),
          )
          at zero e (inr (l, t)) c = absurd (
              let m = length-append xs (flat_items_from b (Choice variants ∷ bs) []) in
              let s = front_some b 0 (picked_items (Choice variants) 0) (flat_items_from (b + 1) bs []) some in
              omega (arith, e, l, m, s)
              )
          at (suc k) e st c =
              absurd (front_counts b 0 (picked_items (Choice variants) 0) (flat_items_from (b + 1) bs []) k some c)

  goes_none : (p r : Passed) (xs : List FlatItem) (b n : ℕ) (to : Place) (d : ℤ) → Leads p xs b [] n to r d →
      Goes doc top p xs b [] to r d
  goes_none p r xs b n to d l = by_bool (nat_lt n (length xs))
      (λ t. let h = less_true n (length xs) t in (
        n,
        (
          near h l.stands,
          (sym (ap (pass_items doc p) (take_left n xs (behind b []) (omega (arith, h)))) ∙ l.passes, free),
        ),
      ))
      (λ f. let h = not_less n (length xs) f in
      let e : n ≡ length xs + (n - length xs) = omega (arith, h) in
      let st : StandsIn xs b n to = last_stands xs b n (n - length xs) to l.below e l.front l.stands
      (l.counted (n - length xs) e) in (
        n,
        (st, (sym (ap (pass_items doc p) (take_left n xs (behind b []) (short st))) ∙ l.passes, free)),
      ))
    where
      free : d ≡ pos 0
      free = l.pays ∙ ap (whole_sum_by (λ (v : Variant). pos v.demerits)) (none_picked (drop b doc.blocks))

      near : n < length xs → Stands (xs ++ behind b []) n to → StandsIn xs b n to
      near h (inl (x, g)) = inl (x, (sym (get_left xs (behind b []) n h) ∙ g.0, g.1))
      near h (inr (e, t)) = absurd (let m = length-append xs (behind b []) in omega (arith, h, e, m))

      short : StandsIn xs b n to → n ≤ length xs
      short (inl (x, g)) = let m = get_lt xs n x g.0 in omega (arith, m)
      short (inr (e, t)) = omega (arith, e)

  -- ---- one pick

  passed_apart : (p r : Passed) (xs ys : List FlatItem) → pass_items doc p (xs ++ ys) ≡ Some r →
      (s : Passed) × ((pass_items doc p xs ≡ Some s) × (pass_items doc s ys ≡ Some r))
  passed_apart p r xs ys e = by (pass_items doc p xs) refl (sym (pass_append doc p xs ys) ∙ e)
    where
      by : (o : Option Passed) → pass_items doc p xs ≡ o →
          option_map_or (λ (q : Passed). pass_items doc q ys) o None ≡ Some r →
          (s : Passed) × ((pass_items doc p xs ≡ Some s) × (pass_items doc s ys ≡ Some r))
      by None k h = absurd cc
      by (Some s) k h = (s, (k, h))

  pub past_is : (p s : Passed) (xs : List FlatItem) → pass_items doc p xs ≡ Some s → fits s.bound top ≡ true →
      past_stretch doc top p xs ≡ Some s
  past_is p s xs e f =
      ap (λ (o : Option Passed). option_map_or (λ (q : Passed). if fits q.bound top then Some q else None) o None) e
      ∙ if_true (fits s.bound top) (Some s) None f

  no_more : (qs : List ℕ) → 1 ≡ suc (length qs) → qs ≡ []
  no_more [] e = refl
  no_more (q ∷ qs) e = absurd (omega (arith, e))

  pub record HasPick (p : Passed) (xs : List FlatItem) (b q : ℕ) (qs : List ℕ) (to : Place) (r : Passed) (d : ℤ) :
      Type 0 where
    pub passed : Passed
    pub variant : Variant
    pub price : ℤ
    pub k : ℕ
    pub past : past_stretch doc top p xs ≡ Some passed
    pub at : slice_get (variants_at doc.blocks b) q ≡ Some variant
    pub is_loose_enough : is_loose_enough doc.style variant ≡ true
    pub pays : d ≡ pos variant.demerits +ℤ price
    pub leads : Leads passed (picked_stretch doc.blocks b q) (picked_front doc.blocks b) qs k to r price

  has_pick : (p r : Passed) (xs : List FlatItem) (b q : ℕ) (qs : List ℕ) (n : ℕ) (to : Place) (d : ℤ) →
      Leads p xs b (q ∷ qs) n to r d → HasPick p xs b q qs to r d
  has_pick p r xs b q qs n to d l = by_bool (nat_lt n (length xs))
      (λ t. absurd (let e = l.within (less_true n (length xs) t) in cc))
      (λ f. let h = not_less n (length xs) f in
      by (drop b doc.blocks) refl (n - length xs) (omega (arith, h)) l.front (all_drop IsBlock b doc.blocks all))
    where
      by : (bs : List Block) → drop b doc.blocks ≡ bs → (k : ℕ) → n ≡ length xs + k → IsFront bs →
          AllByRecursion IsBlock bs → HasPick p xs b q qs to r d
      by [] e k at f a = absurd (
          let c : fronts (behind b (q ∷ qs)) k ≡ suc (length qs) = l.counted k at in
          let z : fronts (flat_items_from b [] (q ∷ qs)) k ≡ 0 = fronts_none [] k tt in
          let w : fronts (behind b (q ∷ qs)) k ≡ 0 =
          ap (λ (bs : List Block). fronts (flat_items_from b bs (q ∷ qs)) k) e ∙ z in
          omega (arith, c, w)
          )
      by (One item ∷ bs) e k at f a = absurd f
      by (Choice variants ∷ bs) e zero at f a = absurd (let c = l.counted 0 at in omega (arith, c))
      by (Choice variants ∷ bs) e (suc k) at f a = record {
        passed = cut.0;
        variant = v.0;
        price = whole_sum_by (λ (w : Variant). pos w.demerits)
            (picked_variants (drop (picked_front doc.blocks b) doc.blocks) qs);
        k = suc k;
        past = past_is p cut.0 xs cut.1.0
            (items_fit doc top cut.0 r (take (suc k) (behind b (q ∷ qs))) cut.1.1 l.bound);
        at = ap (λ (vs : List Variant). slice_get vs q) (variants_are doc.blocks b variants bs e) ∙ v.1;
        is_loose_enough = (both_of (is_loose_enough doc.style v.0) _
            (sym (ap (list_all (is_loose_enough doc.style)) those) ∙ l.loose)).0;
        pays = l.pays ∙ ap (whole_sum_by (λ (w : Variant). pos w.demerits)) those;
        leads = record {
          below = front_within doc.blocks (b + 1) (drop (b + 1) doc.blocks) refl
              (let w = drop_within b doc.blocks bs (Choice variants) e in omega (arith, w));
          front = subst IsFront (sym (drop_front doc.blocks (b + 1) (drop (b + 1) doc.blocks) refl))
              (after_front (drop (b + 1) doc.blocks));
          stands = subst (λ (ys : List FlatItem). Stands ys (suc k) to) split (later l.stands);
          within = λ h. no_more qs (near_count h);
          counted = λ j h. far_count j h;
          named = let w : suc (length behind_variants) ≡ suc (length qs) = sym (ap length those) ∙ l.named in
              omega (arith, w);
          loose = (both_of (is_loose_enough doc.style v.0) _
              (sym (ap (list_all (is_loose_enough doc.style)) those) ∙ l.loose)).1;
          pays = refl;
          passes = ap (λ (ys : List FlatItem). pass_items doc cut.0 (take (suc k) ys)) (sym split) ∙ cut.1.1;
          bound = l.bound;
        };
      }
        where
          named_here : length (picked_variants (Choice variants ∷ bs) (q ∷ qs)) ≡ suc (length qs)
          named_here = ap (λ (cs : List Block). length (picked_variants cs (q ∷ qs))) (sym e) ∙ l.named

          v : (v : Variant) × (slice_get variants q ≡ Some v)
          v = pick_named variants bs q qs named_here

          behind_variants : List Variant
          behind_variants = picked_variants (drop (picked_front doc.blocks b) doc.blocks) qs

          those : picked_variants (drop b doc.blocks) (q ∷ qs) ≡ v.0 ∷ behind_variants
          those = ap (λ (cs : List Block). picked_variants cs (q ∷ qs)) e
              ∙ (one_named (slice_get variants q) v.0 (picked_variants bs qs) v.1
              ∙ ap (λ (vs : List Variant). v.0 ∷ vs) (picked_named doc.blocks b bs (Choice variants) qs e))

          split : behind b (q ∷ qs)
              ≡ picked_stretch doc.blocks b q ++ behind (picked_front doc.blocks b) qs
          split = ap (λ (cs : List Block). flat_items_from b cs (q ∷ qs)) e
              ∙ picked_split doc.blocks b variants bs q qs e

          cut : (s : Passed) × ((pass_items doc p xs ≡ Some s)
              × (pass_items doc s (take (suc k) (behind b (q ∷ qs))) ≡ Some r))
          cut = passed_apart p r xs (take (suc k) (behind b (q ∷ qs)))
              (ap (pass_items doc p) (sym (take_right n (suc k) xs (behind b (q ∷ qs)) at)) ∙ l.passes)

          later : Stands (xs ++ behind b (q ∷ qs)) n to → Stands (behind b (q ∷ qs)) (suc k) to
          later (inl (x, g)) = inl (x, (sym (get_right xs (behind b (q ∷ qs)) n (suc k) at) ∙ g.0, g.1))
          later (inr (g, t)) = inr (let m = length-append xs (behind b (q ∷ qs)) in omega (arith, g, m, at), t)

          some : 0 < length (items_around doc.blocks (place b q 0))
          some = subst (λ (items : List Item). 0 < length items)
              (sym (around_is doc.blocks (Choice variants) b q 0 (drop_head b doc.blocks bs (Choice variants) e).0))
              (begins_with variants q v.0 a.0.shape.each v.1)

          inner_one : {j : ℕ} → 1 ≤ j → fronts (picked_stretch doc.blocks b q) j ≡ 1
          inner_one {j} h = one_front b q (items_around doc.blocks (place b q 0)) (drop (b + 1) doc.blocks) (b + 1) j
              some h

          near_count : suc k < length (picked_stretch doc.blocks b q) → 1 ≡ suc (length qs)
          near_count h =
              let c : fronts (behind b (q ∷ qs)) (suc k) ≡ suc (length qs) = l.counted (suc k) at in
              let s : fronts (behind b (q ∷ qs)) (suc k) ≡ fronts (picked_stretch doc.blocks b q) (suc k) =
              ap (λ (ys : List FlatItem). fronts ys (suc k)) split
              ∙ fronts_left (picked_stretch doc.blocks b q) (behind (picked_front doc.blocks b) qs) (suc k)
              (omega (arith, h)) in
              let o = inner_one {j = suc k} (omega arith) in
              omega (arith, c, s, o)

          long : 1 ≤ length (picked_stretch doc.blocks b q)
          long = front_some b q (items_around doc.blocks (place b q 0)) (singles (b + 1) (drop (b + 1) doc.blocks)) some

          far_count : (j : ℕ) → suc k ≡ length (picked_stretch doc.blocks b q) + j →
              fronts (behind (picked_front doc.blocks b) qs) j ≡ length qs
          far_count j h =
              let c : fronts (behind b (q ∷ qs)) (suc k) ≡ suc (length qs) = l.counted (suc k) at in
              let s : fronts (behind b (q ∷ qs)) (suc k)
              ≡ fronts (picked_stretch doc.blocks b q) (length (picked_stretch doc.blocks b q))
              + fronts (behind (picked_front doc.blocks b) qs) j =
              ap (λ (ys : List FlatItem). fronts ys (suc k)) split
              ∙ fronts_right (picked_stretch doc.blocks b q) (behind (picked_front doc.blocks b) qs) (suc k) j h in
              let o = inner_one {j = length (picked_stretch doc.blocks b q)} long in
              omega (arith, c, s, o)

  pub goes : (qs : List ℕ) (p r : Passed) (xs : List FlatItem) (b n : ℕ) (to : Place) (d : ℤ) →
      Leads p xs b qs n to r d → Goes doc top p xs b qs to r d
  goes [] p r xs b n to d l = goes_none p r xs b n to d l
  goes (q ∷ qs) p r xs b n to d l =
      let h : HasPick p xs b q qs to r d = has_pick p r xs b q qs n to d l in (
        h.passed,
        (
          h.variant,
          (
            h.price,
            (
              h.past,
              (
                h.at,
                (
                  h.is_loose_enough,
                  (
                    h.pays,
                    goes qs h.passed r (picked_stretch doc.blocks b q) (picked_front doc.blocks b) h.k to h.price
                        h.leads,
                  ),
                ),
              ),
            ),
          ),
        ),
      )
