-- The walk over all picks in the tallest room tells the reach of a place.
use Rattle.std.proofs.Common.{◌≡◌, refl, sym, ap, ◌∙◌, subst, ℕ, zero, suc, ◌+◌, ◌≤◌, ◌<◌, ◌⊎◌, inl, inr, List, [], ◌∷◌, ◌++◌, length, length-append, take, drop, arith, Bool, true, false, Option, Some, None, ℤ, pos, ◌+ℤ◌, ◌-ℤ◌}
use Rattle.std.specs.Prelude.{◌==◌, ◌||◌, not, ◌-◌, if◌then◌else◌, max, slice_get, nat_le, nat_abs, unsigned_abs}
use Rattle.std.specs.List.{AllByRecursion, list_all, range_with_len}
use Rattle.std.specs.Option.{option_map_or}
use Rattle.std.proofs.lemmas.Int.{ints}
use Rattle.std.proofs.lemmas.Bool.Decides.{nat_tests}
use Rattle.std.proofs.lemmas.List.{append-nil}
use Rattle.std.proofs.lemmas.Option.{slice_get_within}
use Rattle.pg_list.specs.declared.item.Item.{Item}
use Rattle.pg_list.specs.declared.blocks.Block.{Block}
use Rattle.pg_list.specs.declared.blocks.Block.TheVariants.{One, Choice}
use Rattle.pg_list.specs.declared.variants.Variant.{Variant}
use Rattle.pg_list.specs.declared.galley.Place.{Place}
use Rattle.pg_list.specs.Places.{items_around, picked_items, place}
use Rattle.pg_list.specs.Shapes.{IsBlock, IsWithinLimits}
use Rattle.pg_list.specs.Badness.{is_over}
use Rattle.pg_list.specs.Break.{passes_between}
use Rattle.pg_list.specs.Flat.{FlatItem, blocks_at, end_of, flat_items_at, flat_items_from, fronts, is_same_place, picked_variants, steps_to, variant_flat_items}
use Rattle.pg_list.specs.Totals.{shrink, total, trimmed}
use Rattle.pg_list.specs.Whole.{whole_sum_by}
use Rattle.pg_breaks.specs.Read.{items_at}
use Rattle.pg_breaks.proofs.Lists.{get_right, get_lt}
use Rattle.law_places.proofs.Splits.{stands_at}
use Rattle.law_places.proofs.Among.{all_same}
use Rattle.pg_lemmas.proofs.Bools.{both, both_of, by_bool, if_true}
use Rattle.law_places.proofs.Measures.{place_within}
use Rattle.law_places.proofs.Places.{begins, ends_at}
use Rattle.law_places.specs.Past.{IsPast}
use Rattle.std.proofs.Math.Nat.{le_refl}
use Rattle.std.proofs.lemmas.List.{take_all}
use Rattle.law_places.proofs.Tests.{place_refl}
use Rattle.std.proofs.lemmas.Bool.{eqb-true}
use Rattle.pg_lemmas.proofs.Numbers.{eq_refl}
use Rattle.pg_rules.specs.IsState.{IsPlace}
use Rattle.pg_rules.specs.Reach.{IsReach, Reaches, is_over_at_most}
use Rattle.pg_rules.specs.Room.{Document}
use Rattle.pg_style.specs.Ranges.{IsStyle}
use Rattle.pg_style.specs.Values.{StyleValue}
use Rattle.law_walk.specs.Candidates.{}
use Rattle.pg_column.specs.Passed.{Passed, fits, nothing, pass_item, pass_items}
use Rattle.law_walk.specs.Reached.{greatest_block, greatest_from, quiet, reach_along, reach_from, reach_of, tallest}
use Rattle.law_walk.specs.Walk.{first_front, first_items, past_stretch, picked_front, picked_stretch, singles, variants_at}
use Rattle.law_walk.proofs.Complete.{Goes, StandsIn}
use Rattle.pg_column.proofs.Judging.{steps_within}
use Rattle.pg_column.proofs.Passing.{agrees, pass_append}
use Rattle.law_walk.proofs.Sound.{IsAt, IsBefore, before_pick, own_items, past_before, start, steps_at}
use Rattle.law_walk.proofs.SpaceLaws.{past_parts}
use Rattle.law_walk.proofs.Stretches.{IsFirst, first_is, first_none, front_behind, fronts_left, fronts_none, fronts_right, items_fit}
use Rattle.law_walk.proofs.Ways.{IsFront, Leads, Stands, goes, take_right, front_some}
use Rattle.law_walk.proofs.Whole.{first_front_is, first_within}
use Rattle.pg_lemmas.proofs.Lists.{all_drop, get_left}
use Rattle.pg_column.specs.Judged.{is_loose_enough}

quiet_style : (style : StyleValue) → IsStyle style → IsStyle (record style { classes = []; max_looseness = 100 })
quiet_style style s = record {
  version_from = s.version_from;
  version_to = s.version_to;
  columns_from = s.columns_from;
  columns_to = s.columns_to;
  height_from = s.height_from;
  height_to = s.height_to;
  topskip_in = s.topskip_in;
  maxdepth_in = s.maxdepth_in;
  min_text_in = s.min_text_in;
  tolerance_in = s.tolerance_in;
  line_in = s.line_in;
  looseness_in = omega arith;
  fitness_in = s.fitness_in;
  runs_in = s.runs_in;
  heights_in = s.heights_in;
  top_in = s.top_in;
  bottom_in = s.bottom_in;
  wide_in = s.wide_in;
  float_column_in = s.float_column_in;
  classes_in = record { few = omega arith; in_order = tt; each = tt };
  no_fitness = s.no_fitness;
  few_classes = λ e. omega arith;
  ragged_in = s.ragged_in;
  rigid_in = λ e. let r = s.rigid_in e in record {
    top_in = r.top_in;
    bottom_in = r.bottom_in;
    wide_in = r.wide_in;
    classes_in = tt;
    not_ragged = r.not_ragged;
  };
}

-- ---- each variant may be picked

loose_one : (v : Variant) → IsWithinLimits v → nat_le (unsigned_abs v.looseness) 100 ≡ true
loose_one v w = let h = w.looseness in test (unsigned_abs v.looseness) (size v.looseness h)
  where
    size : (z : ℤ) → nat_abs z ≤ 100 → unsigned_abs z ≤ 100
    size z h = omega (arith, ints, h)

    test : (n : ℕ) → n ≤ 100 → nat_le n 100 ≡ true
    test n h = grind (arith, nat_tests)

loose_append : (p : Variant → Bool) (xs ys : List Variant) → list_all p xs ≡ true → list_all p ys ≡ true →
    list_all p (xs ++ ys) ≡ true
loose_append p [] ys a b = b
loose_append p (x ∷ xs) ys a b = let t = both_of (p x) (list_all p xs) a in
    both (p x) (list_all p (xs ++ ys)) t.0 (loose_append p xs ys t.1 b)

abbrev free : Variant → Bool
free v = nat_le (unsigned_abs v.looseness) 100

one_free : (variants : List Variant) (q : ℕ) → AllByRecursion IsWithinLimits variants →
    list_all free (option_map_or (λ (v : Variant). v ∷ []) (slice_get variants q) []) ≡ true
one_free [] q a = refl
one_free (v ∷ vs) zero a = both (free v) true (loose_one v a.0) refl
one_free (v ∷ vs) (suc q) a = one_free vs q a.1

all_free : (blocks : List Block) (picks : List ℕ) → AllByRecursion IsBlock blocks →
    list_all free (picked_variants blocks picks) ≡ true
all_free [] picks a = refl
all_free (One item ∷ blocks) picks a = all_free blocks picks a.1
all_free (Choice variants ∷ blocks) [] a = refl
all_free (Choice variants ∷ blocks) (q ∷ qs) a =
    loose_append free (option_map_or (λ (v : Variant). v ∷ []) (slice_get variants q) []) (picked_variants blocks qs)
    (one_free variants q a.0.limits) (all_free blocks qs a.1)

pub free_at : (blocks : List Block) (b q : ℕ) (v : Variant) → AllByRecursion IsBlock blocks →
    slice_get (variants_at blocks b) q ≡ Some v → free v ≡ true
free_at [] b q v a e = absurd cc
free_at (One item ∷ bs) zero q v a e = absurd cc
free_at (Choice variants ∷ bs) zero q v a e = at variants q a.0.limits e
  where
    at : (vs : List Variant) (q : ℕ) → AllByRecursion IsWithinLimits vs → slice_get vs q ≡ Some v → free v ≡ true
    at [] q a e = absurd cc
    at (w ∷ ws) zero a e = let s : w ≡ v = cc in subst (λ (x : Variant). free x ≡ true) s (loose_one w a.0)
    at (w ∷ ws) (suc q) a e = at ws q a.1 e
free_at (x ∷ bs) (suc b) q v a e = free_at bs b q v a.1 e

max_left : (a b n : ℕ) → n ≤ a → n ≤ max a b
max_left a b n h = omega (arith, h)

max_right : (a b n : ℕ) → n ≤ b → n ≤ max a b
max_right a b n h = omega (arith, h)

-- what holds of two numbers holds of the greater
of_either : (P : ℕ → Type 0) (a b : ℕ) → P a → P b → P (max a b)
of_either P a b p q = by_bool (nat_le a b)
    (λ t. let e : max a b ≡ b = bigger a b t in subst P (sym e) q)
    (λ f. let e : max a b ≡ a = smaller a b f in subst P (sym e) p)
  where
    bigger : (a b : ℕ) → nat_le a b ≡ true → max a b ≡ b
    bigger a b t = grind (arith, nat_tests)

    smaller : (a b : ℕ) → nat_le a b ≡ false → max a b ≡ a
    smaller a b t = grind (arith, nat_tests)

-- what holds of each of the numbers holds of the greatest
pub of_greatest : (P : ℕ → Type 0) (f : ℕ → ℕ) (b a n : ℕ) → P b → ((k : ℕ) → a ≤ k → k < a + n → P (f k)) →
    P (greatest_from f b a n)
of_greatest P f b a zero p each = p
of_greatest P f b a (suc n) p each =
    of_either P (f a) (greatest_from f b (a + 1) n) (each a (omega arith) (omega arith))
    (of_greatest P f b (a + 1) n p (λ k l u. each k (omega (arith, l)) (omega (arith, u))))

-- no less than the last
pub least_of : (f : ℕ → ℕ) (b a n : ℕ) → b ≤ greatest_from f b a n
least_of f b a zero = omega arith
least_of f b a (suc n) = max_right (f a) (greatest_from f b (a + 1) n) b (least_of f b (a + 1) n)

-- no less than each of the numbers
pub greatest_at : (f : ℕ → ℕ) (b a d n m : ℕ) → d < n → m ≤ f (a + d) → m ≤ greatest_from f b a n
greatest_at f b a d zero m h l = absurd (omega (arith, h))
greatest_at f b a zero (suc n) m h l =
    let e : a + 0 ≡ a = omega arith in
    max_left (f a) (greatest_from f b (a + 1) n) m (subst (λ (z : ℕ). m ≤ f z) e l)
greatest_at f b a (suc d) (suc n) m h l =
    let e : a + suc d ≡ a + 1 + d = omega arith in
    max_right (f a) (greatest_from f b (a + 1) n) m
    (greatest_at f b (a + 1) d n m (omega (arith, h)) (subst (λ (z : ℕ). m ≤ f z) e l))

module _ (doc : Document) (all : AllByRecursion IsBlock doc.blocks) (is-style : IsStyle doc.style) (from : Place)
    (at : IsPlace doc.blocks from) where
  abbrev pub still : Document
  still = quiet doc

  abbrev pub top : ℤ
  top = tallest doc.style

  none_less : (t s g : ℤ) → is_over t s (g -ℤ pos 0) ≡ is_over t s g
  none_less t s g = let e : g -ℤ pos 0 ≡ g = omega (arith, ints) in ap (is_over t s) e

  abbrev items : List ℕ → List FlatItem
  items picks = flat_items_at doc.blocks from picks

  same_or : (a b f g : Bool) → f ≡ g → (a || not (b || f)) ≡ (a || not (b || g))
  same_or a b f g e = ap (λ (h : Bool). a || not (b || h)) e

  -- the rule on breaks passed, by what was passed
  passes_is : (picks : List ℕ) → length (picked_variants (blocks_at doc.blocks from) picks) ≡ length picks → (n : ℕ) →
      n ≤ length (items picks) →
      passes_between (items_at doc.blocks from picks) (is_over_at_most doc.style (items_at doc.blocks from picks)) n
      ≡ option_map_or (λ (p : Passed). fits p.bound top) (pass_items still nothing (take n (items picks))) false
  passes_is picks named n h =
      all_same _ _ (range_with_len 1 (n - 1)) (λ k a.
      same_or _ _ _ _ (sym (none_less
      (total doc.style.topskip doc.style.maxdepth (trimmed (take k (items_at doc.blocks from picks))))
      (shrink (trimmed (take k (items_at doc.blocks from picks)))) top)))
      ∙ (agrees still all (quiet_style doc.style is-style) from picks named n h).1 top

  -- ---- nothing is reached behind the greatest block

  pub along_below : (b : ℕ) (to : Place) (p r : Passed) (xs : List FlatItem) (k : ℕ) → StandsIn xs b k to →
      pass_items still p (take k xs) ≡ Some r → fits r.bound top ≡ true → to.block ≤ reach_along still top b p xs
  along_below b to p r [] zero (inl (x, e)) g f = absurd (let h = e.0 in cc)
  along_below b to p r [] zero (inr (e, t)) g f = let s : to.block ≡ b = ap (λ (z : Place). z.block) t in
      omega (arith, s)
  along_below b to p r [] (suc k) (inl (x, e)) g f = absurd (let h = e.0 in cc)
  along_below b to p r [] (suc k) (inr (e, t)) g f = absurd (omega (arith, e))
  along_below b to p r (x ∷ xs) zero (inl (y, e)) g f =
      let same : x ≡ y = let h = e.0 in cc in
      let s : x.place.block ≡ to.block = ap (λ (z : FlatItem). z.place.block) same ∙ ap (λ (z : Place). z.block) e.1 in
      max_left x.place.block _ to.block (omega (arith, s))
  along_below b to p r (x ∷ xs) zero (inr (e, t)) g f = absurd (omega (arith, e))
  along_below b to p r (x ∷ xs) (suc k) st g f = max_right x.place.block _ to.block
      (by (pass_item still p x) g (λ q h. along_below b to q r xs k (later st) h f))
    where
      later : StandsIn (x ∷ xs) b (suc k) to → StandsIn xs b k to
      later (inl s) = inl s
      later (inr (e, t)) = inr (omega (arith, e), t)

      by : (o : Option Passed) → option_map_or (λ (q : Passed). pass_items still q (take k xs)) o None ≡ Some r →
          ((q : Passed) → pass_items still q (take k xs) ≡ Some r → to.block ≤ reach_along still top b q xs) →
          to.block ≤ option_map_or (λ (q : Passed). if fits q.bound top then reach_along still top b q xs else 0) o 0
      by None h more = absurd cc
      by (Some q) h more = subst (λ (n : ℕ). to.block ≤ n)
          (sym (if_true (fits q.bound top) (reach_along still top b q xs) 0
          (items_fit still top q r (take k xs) h f))) (more q h)

  no_variants : (n : ℕ) (blocks : List Block) → length blocks ≤ n → variants_at blocks n ≡ []
  no_variants n [] h = refl
  no_variants zero (x ∷ blocks) h = absurd (omega (arith, h))
  no_variants (suc n) (x ∷ blocks) h = no_variants n blocks (omega (arith, h))

  from_below : (fuel b q : ℕ) (qs : List ℕ) (to : Place) (p r : Passed) (e : ℤ) (v : Variant) →
      length doc.blocks ≤ b + fuel → slice_get (variants_at doc.blocks b) q ≡ Some v →
      Goes still top p (picked_stretch doc.blocks b q) (picked_front doc.blocks b) qs to r e →
      fits r.bound top ≡ true → to.block ≤ reach_from fuel still top b p
  from_below zero b q qs to p r e v h there g f =
      absurd (let none = no_variants b doc.blocks (omega (arith, h)) in
      let k : slice_get [] q ≡ Some v = subst (λ (vs : List Variant). slice_get vs q ≡ Some v) none there in cc)
  from_below (suc fuel) b q qs to p r e v h there g f =
      greatest_at Part b 0 q (length (variants_at doc.blocks b)) to.block
      (slice_get_within (variants_at doc.blocks b) q v there)
      (let same : 0 + q ≡ q = omega arith in subst (λ (z : ℕ). to.block ≤ Part z) (sym same)
      (subst (λ (o : Option Variant). to.block ≤ option_map_or (λ (w : Variant). Whole q) o b) (sym there)
      (deep qs e g (λ q' qs' s e' w h' at' g'. from_below fuel (picked_front doc.blocks b) q' qs' to s r e' w h' at'
      g' f))))
    where
      Whole : ℕ → ℕ
      Whole pick = max (reach_along still top (picked_front doc.blocks b) p (picked_stretch doc.blocks b pick))
          (option_map_or (λ (s : Passed). reach_from fuel still top (picked_front doc.blocks b) s)
          (past_stretch still top p (picked_stretch doc.blocks b pick)) 0)

      Part : ℕ → ℕ
      Part pick = option_map_or (λ (w : Variant). Whole pick) (slice_get (variants_at doc.blocks b) pick) b

      Again : Type 0
      Again = (q' : ℕ) (qs' : List ℕ) (s : Passed) (e' : ℤ) (w : Variant) →
          length doc.blocks ≤ picked_front doc.blocks b + fuel →
          slice_get (variants_at doc.blocks (picked_front doc.blocks b)) q' ≡ Some w →
          Goes still top s (picked_stretch doc.blocks (picked_front doc.blocks b) q')
          (picked_front doc.blocks (picked_front doc.blocks b)) qs' to r e' →
          to.block ≤ reach_from fuel still top (picked_front doc.blocks b) s

      deep : (qs : List ℕ) (e : ℤ) →
          Goes still top p (picked_stretch doc.blocks b q) (picked_front doc.blocks b) qs to r e → Again →
          to.block ≤ Whole q
      deep [] e (k, (st, (pass, none))) again =
          max_left (reach_along still top (picked_front doc.blocks b) p (picked_stretch doc.blocks b q)) _ to.block
          (along_below (picked_front doc.blocks b) to p r (picked_stretch doc.blocks b q) k st pass f)
      deep (q' ∷ qs) e (s, (w, (e', (past, (there', (loose', (pays', more))))))) again =
          let onward : length doc.blocks ≤ picked_front doc.blocks b + fuel =
          let m = front_behind (b + 1) (drop (b + 1) doc.blocks) in omega (arith, h, m) in
          max_right (reach_along still top (picked_front doc.blocks b) p (picked_stretch doc.blocks b q)) _ to.block
          (subst (λ (o : Option Passed). to.block ≤ option_map_or
          (λ (z : Passed). reach_from fuel still top (picked_front doc.blocks b) z) o 0) (sym past)
          (again q' qs s e' w onward there' more))

  abbrev pub lead : List FlatItem
  lead = first_items doc.blocks from

  abbrev pub front : ℕ
  front = first_front doc.blocks from

  no_picks : (ps : List ℕ) → 0 ≡ length ps → ps ≡ []
  no_picks [] e = refl
  no_picks (q ∷ qs) e = absurd (omega (arith, e))

  is_some_fit : (o : Option Passed) → option_map_or (λ (p : Passed). fits p.bound top) o false ≡ true →
      (p : Passed) × ((o ≡ Some p) × (fits p.bound top ≡ true))
  is_some_fit None e = absurd cc
  is_some_fit (Some p) e = (p, (refl, e))

  -- picks lead to each place that is reached, stretch after stretch
  pub record HasWay (to : Place) : Type 0 where
    pub picks : List ℕ
    pub passed : Passed
    pub price : ℤ
    pub way : Goes still top nothing lead front picks to passed price
    pub bound : fits passed.bound top ≡ true

  pub has_way : (to : Place) → Reaches doc from to → HasWay to
  has_way to r =
      let two = both_of (fronts (items r.picks) r.size == length r.picks) _ r.picked in
      let count = eqb-true _ _ two.0 in
      let named : length (picked_variants (blocks_at doc.blocks from) r.picks) ≡ length r.picks = eqb-true _ _ two.1 in
      let short = steps_within doc.blocks (items r.picks) to r.size r.leads in
      let s = is_some_fit (pass_items still nothing (take r.size (items r.picks)))
      (sym (passes_is r.picks named r.size short) ∙ r.passes) in
      record {
        picks = r.picks;
        passed = s.0;
        price = whole_sum_by (λ (v : Variant). pos v.demerits) (picked_variants (drop front doc.blocks) r.picks);
        way = goes still top all r.picks nothing s.0 lead front r.size to
            (whole_sum_by (λ (v : Variant). pos v.demerits) (picked_variants (drop front doc.blocks) r.picks))
            (leading r.picks r.size r.leads count named s.0 s.1.0 s.1.1);
        bound = s.1.1;
      }
    where
      first : IsFirst doc.blocks from
      first = first_is doc.blocks from

      leading : (picks : List ℕ) (n : ℕ) → steps_to doc.blocks (items picks) to ≡ Some n →
          fronts (items picks) n ≡ length picks →
          length (picked_variants (blocks_at doc.blocks from) picks) ≡ length picks → (s : Passed) →
          pass_items still nothing (take n (items picks)) ≡ Some s → fits s.bound top ≡ true →
          Leads still top all nothing lead front picks n to s
          (whole_sum_by (λ (v : Variant). pos v.demerits) (picked_variants (drop front doc.blocks) picks))
      leading picks n leads count named s pass bound = record {
        below = first_within still top all from at;
        front = first_front_is still top all from at;
        stands = subst (λ (ys : List FlatItem). Stands still top all ys n to) (first.split picks)
            (stands_at doc.blocks (items picks) to n leads);
        within = λ h. no_picks picks (sym (fronts_none lead n (first_none doc.blocks from))
            ∙ (sym (fronts_left lead (flat_items_from front (drop front doc.blocks) picks) n (omega (arith, h)))
            ∙ (sym (ap (λ (ys : List FlatItem). fronts ys n) (first.split picks)) ∙ count)));
        counted = λ k h.
            let z = fronts_none lead (length lead) (first_none doc.blocks from) in
            let f = fronts_right lead (flat_items_from front (drop front doc.blocks) picks) n k h in
            let w : fronts (items picks) n ≡ fronts (lead ++ flat_items_from front (drop front doc.blocks) picks) n =
            ap (λ (ys : List FlatItem). fronts ys n) (first.split picks) in
            omega (arith, z, f, w, count);
        named = sym (ap length (first.named picks)) ∙ named;
        loose = all_free (drop front doc.blocks) picks (all_drop IsBlock front doc.blocks all);
        pays = refl;
        passes = sym (ap (λ (ys : List FlatItem). pass_items still nothing (take n ys)) (first.split picks)) ∙ pass;
        bound = bound;
      }

  below : (to : Place) → Reaches doc from to → to.block ≤ greatest_block still top from
  below to reached =
      let w : HasWay to = has_way to reached in by w.picks w.passed w.price w.way w.bound
    where
      by : (ps : List ℕ) (r : Passed) (d : ℤ) → Goes still top nothing lead front ps to r d → fits r.bound top ≡ true →
          to.block ≤ greatest_block still top from
      by [] r d (k, (st, (pass, none))) f = max_left (reach_along still top front nothing lead) _ to.block
          (along_below front to nothing r lead k st pass f)
      by (q ∷ qs) r d (s, (w, (e, (past, (there, (loose, (pays, more))))))) f =
          max_right (reach_along still top front nothing lead) _ to.block
          (subst (λ (o : Option Passed). to.block ≤ option_map_or
          (λ (p : Passed). reach_from (length doc.blocks) still top front p) o 0) (sym past)
          (from_below (length doc.blocks) front q qs to s r e w (omega arith) there more f))

  -- ---- and the greatest block is reached

  abbrev pub Attained : ℕ → Type 0
  Attained n = (to : Place) × (Reaches doc from to × (to.block ≡ n))

  or_none : (a : ℕ) → Attained a → Attained (max a 0)
  or_none a p = let e : max a 0 ≡ a = omega arith in subst Attained (sym e) p

  abbrev pub Before : List ℕ → ℕ → Passed → ℤ → List FlatItem → Type 0
  Before picks b p d zs = IsBefore still top all from at picks b p d zs

  pub reached_at : (picks : List ℕ) (b : ℕ) (p : Passed) (d : ℤ) (zs : List FlatItem) (o : Before picks b p d zs)
      (k : ℕ)
      (to : Place) (r : Passed) → StandsIn zs b k to → fronts o.xs (length o.xs) + fronts zs k ≡ length picks →
      pass_items still p (take k zs) ≡ Some r → fits r.bound top ≡ true → Reaches doc from to
  reached_at picks b p d zs o k to r st count pass bound = record {
    picks = picks;
    size = n;
    leads = steps st;
    picked = both _ _ (ap (λ (m : ℕ). m == length picks) counted ∙ eq_refl (length picks))
        (ap (λ (m : ℕ). m == length picks) named ∙ eq_refl (length picks));
    passes = passes_is picks named n (steps_within doc.blocks (items picks) to n (steps st))
        ∙ (ap (λ (q : Option Passed). option_map_or (λ (s : Passed). fits s.bound top) q false) passed ∙ bound);
  }
    where
      n : ℕ
      n = length o.xs + k

      nil : picks ++ [] ≡ picks
      nil = append-nil picks

      rest : List FlatItem
      rest = flat_items_from b (drop b doc.blocks) []

      whole : items picks ≡ o.xs ++ (zs ++ rest)
      whole = ap (flat_items_at doc.blocks from) (sym nil) ∙ o.split []

      empty : (blocks : List Block) → picked_variants blocks [] ≡ []
      empty [] = refl
      empty (One item ∷ blocks) = empty blocks
      empty (Choice variants ∷ blocks) = refl

      those : picked_variants (blocks_at doc.blocks from) picks ≡ o.variants
      those = ap (picked_variants (blocks_at doc.blocks from)) (sym nil)
          ∙ (o.named [] ∙ (ap (λ (vs : List Variant). o.variants ++ vs) (empty (drop b doc.blocks))
          ∙ append-nil o.variants))

      named : length (picked_variants (blocks_at doc.blocks from) picks) ≡ length picks
      named = ap length those ∙ o.many

      short : k ≤ length zs
      short = by st
        where
          by : StandsIn zs b k to → k ≤ length zs
          by (inl (x, g)) = let m = get_lt zs k x g.0 in omega (arith, m)
          by (inr (e, t)) = omega (arith, e)

      take_left : {X : Type 0} (n : ℕ) (xs ys : List X) → n ≤ length xs → take n (xs ++ ys) ≡ take n xs
      take_left zero xs ys h = refl
      take_left (suc n) [] ys h = absurd (omega (arith, h))
      take_left (suc n) (x ∷ xs) ys h = ap (λ zs. x ∷ zs) (take_left n xs ys (omega (arith, h)))

      passed : pass_items still nothing (take n (items picks)) ≡ Some r
      passed = ap (λ (ys : List FlatItem). pass_items still nothing (take n ys)) whole
          ∙ (ap (pass_items still nothing) (take_right n k o.xs (zs ++ rest) refl)
          ∙ (pass_append still nothing o.xs (take k (zs ++ rest))
          ∙ (ap (λ (q : Option Passed). option_map_or (λ (s : Passed). pass_items still s (take k (zs ++ rest))) q
          None) o.passes
          ∙ (ap (pass_items still p) (take_left k zs rest short) ∙ pass))))

      counted : fronts (items picks) n ≡ length picks
      counted = ap (λ (ys : List FlatItem). fronts ys n) whole
          ∙ (fronts_right o.xs (zs ++ rest) n k refl
          ∙ (ap (λ (m : ℕ). fronts o.xs (length o.xs) + m) (fronts_left zs rest k short) ∙ count))

      past : {X : Type 0} (n : ℕ) (xs : List X) → drop n xs ≡ [] → length xs ≤ n
      past zero [] e = omega arith
      past zero (x ∷ xs) e = absurd cc
      past (suc n) [] e = omega arith
      past (suc n) (x ∷ xs) e = let r = past n xs e in omega (arith, r)

      front_first : (m v : ℕ) (own : List Item) (ys : List FlatItem) → 0 < length own →
          (x : FlatItem) × ((slice_get (variant_flat_items m v own ++ ys) 0 ≡ Some x) × (x.place ≡ place m 0 0))
      front_first m v [] ys h = absurd (omega (arith, h))
      front_first m v (item ∷ own) ys h =
          (record { place = place m 0 0; item = item; is_front = true }, (refl, refl))

      at_front : (bs : List Block) → drop b doc.blocks ≡ bs → IsFront bs → AllByRecursion IsBlock bs → k ≡ length zs →
          to ≡ place b 0 0 → steps_to doc.blocks (items picks) to ≡ Some n
      at_front [] e f a m t =
          let l = past b doc.blocks e in
          let w : b ≡ length doc.blocks = let u = o.below in omega (arith, l, u) in
          let same : to ≡ end_of doc.blocks = t ∙ ap (λ (z : ℕ). place z 0 0) w in
          let long : length (items picks) ≡ n =
          let w = ap length whole in
          let u = length-append o.xs (zs ++ rest) in
          let v = length-append zs rest in
          let z : length rest ≡ 0 = ap (λ (bs : List Block). length (flat_items_from b bs [])) e in
          omega (arith, w, u, v, z, m) in
          if_true (is_same_place to (end_of doc.blocks)) _ _
          (ap (λ (q : Place). is_same_place q (end_of doc.blocks)) same ∙ place_refl (end_of doc.blocks))
          ∙ ap Some long
      at_front (One item ∷ bs) e f a m t = absurd f
      at_front (Choice variants ∷ bs) e f a m t =
          let x = front_first b 0 (picked_items (Choice variants) 0) (flat_items_from (b + 1) bs [])
          (begins variants a.0) in
          let there : slice_get (items picks) n ≡ Some x.0 =
          ap (λ (ys : List FlatItem). slice_get ys n) whole
          ∙ (get_right o.xs (zs ++ rest) n k refl
          ∙ (get_right zs rest k 0 (omega (arith, m))
          ∙ (ap (λ (cs : List Block). slice_get (flat_items_from b cs []) 0) e ∙ x.1.0))) in
          ap (λ (q : Place). steps_to doc.blocks (items picks) q) (t ∙ sym x.1.1)
          ∙ steps_at doc.blocks from picks n x.0 at there

      steps : StandsIn zs b k to → steps_to doc.blocks (items picks) to ≡ Some n
      steps (inl (x, g)) =
          let there : slice_get (items picks) n ≡ Some x =
          ap (λ (ys : List FlatItem). slice_get ys n) whole
          ∙ (get_right o.xs (zs ++ rest) n k refl
          ∙ (get_left zs rest k (get_lt zs k x g.0) ∙ g.0)) in
          ap (λ (q : Place). steps_to doc.blocks (items picks) q) (sym g.1)
          ∙ steps_at doc.blocks from picks n x at there
      steps (inr (m, t)) = at_front (drop b doc.blocks) refl o.front (all_drop IsBlock b doc.blocks all) m t

  dropped : {X : Type 0} (k : ℕ) (xs ys : List X) (y : X) → drop k xs ≡ y ∷ ys →
      (slice_get xs k ≡ Some y) × ((drop (suc k) xs ≡ ys) × (take (suc k) xs ≡ take k xs ++ y ∷ []))
  dropped zero [] ys y e = absurd cc
  dropped zero (x ∷ xs) ys y e = let p : x ≡ y = cc in let q : xs ≡ ys = cc in (ap Some p, (q, ap (λ z. z ∷ []) p))
  dropped (suc k) [] ys y e = absurd cc
  dropped (suc k) (x ∷ xs) ys y e =
      let r = dropped k xs ys y e in (r.0, (r.1.0, ap (λ zs. x ∷ zs) r.1.1))

  at_length : {X : Type 0} (k : ℕ) (xs : List X) → k ≤ length xs → drop k xs ≡ [] → k ≡ length xs
  at_length zero [] h e = refl
  at_length zero (x ∷ xs) h e = absurd cc
  at_length (suc k) [] h e = absurd (omega (arith, h))
  at_length (suc k) (x ∷ xs) h e = ap suc (at_length k xs (omega (arith, h)) e)

  got_less : {X : Type 0} (xs : List X) (k : ℕ) (x : X) → slice_get xs k ≡ Some x → k < length xs
  got_less xs k x e = slice_get_within xs k x e

  -- along a stretch: the first item counts, or its block is reached before
  pub along_attained : (picks : List ℕ) (b : ℕ) (p : Passed) (d : ℤ) (zs : List FlatItem) (o : Before picks b p d zs) →
      ((k : ℕ) → 1 ≤ k → fronts o.xs (length o.xs) + fronts zs k ≡ length picks) →
      ((x : FlatItem) → slice_get zs 0 ≡ Some x → Attained x.place.block) →
      (0 ≡ length zs → fronts o.xs (length o.xs) + fronts zs 0 ≡ length picks) →
      (ys : List FlatItem) (k : ℕ) (q : Passed) → k ≤ length zs → drop k zs ≡ ys →
      pass_items still p (take k zs) ≡ Some q → fits q.bound top ≡ true →
      Attained (reach_along still top b q ys)
  along_attained picks b p d zs o counted first none [] k q h e pass bound =
      let m = at_length k zs h e in (
        place b 0 0,
        (
          reached_at picks b p d zs o k (place b 0 0) q (inr (m, refl)) (count k m) pass bound,
          refl,
        ),
      )
    where
      count : (k : ℕ) → k ≡ length zs → fronts o.xs (length o.xs) + fronts zs k ≡ length picks
      count zero m = none m
      count (suc k) m = counted (suc k) (omega arith)
  along_attained picks b p d zs o counted first none (x ∷ ys) k q h e pass bound =
      let r = dropped k zs ys x e in
      by (here k r.0 pass) (pass_item still q x) refl
      (λ s g f. along_attained picks b p d zs o counted first none ys (suc k) s
      (let l = got_less zs k x r.0 in omega (arith, l)) r.1.0
      (ap (pass_items still p) r.1.1 ∙ (pass_append still p (take k zs) (x ∷ [])
      ∙ (ap (λ (w : Option Passed). option_map_or (λ (u : Passed). pass_items still u (x ∷ [])) w None) pass
      ∙ ap (λ (w : Option Passed). option_map_or (λ (u : Passed). Some u) w None) g))) f)
    where
      here : (k : ℕ) → slice_get zs k ≡ Some x → pass_items still p (take k zs) ≡ Some q → Attained x.place.block
      here zero g w = first x g
      here (suc k) g w = (
        x.place,
        (
          reached_at picks b p d zs o (suc k) x.place q (inl (x, (g, refl))) (counted (suc k) (omega arith)) w bound,
          refl,
        ),
      )

      by : Attained x.place.block → (w : Option Passed) → pass_item still q x ≡ w →
          ((s : Passed) → pass_item still q x ≡ Some s → fits s.bound top ≡ true →
          Attained (reach_along still top b s ys)) →
          Attained (max x.place.block (option_map_or
          (λ (s : Passed). if fits s.bound top then reach_along still top b s ys else 0) w 0))
      by a None g more = or_none x.place.block a
      by a (Some s) g more = inside (fits s.bound top) refl
        where
          inside : (t : Bool) → fits s.bound top ≡ t →
              Attained (max x.place.block (if t then reach_along still top b s ys else 0))
          inside true f = of_either Attained x.place.block (reach_along still top b s ys) a (more s g f)
          inside false f = or_none x.place.block a

  some_bound : (p s : Passed) (xs : List FlatItem) → past_stretch still top p xs ≡ Some s → fits s.bound top ≡ true
  some_bound p s xs e = (past_parts still top p s xs e).1

  from_attained : (fuel : ℕ) (picks : List ℕ) (b : ℕ) (s : Passed) (d : ℤ) →
      IsAt still top all from at picks b s d → fits s.bound top ≡ true → Attained b →
      Attained (reach_from fuel still top b s)
  from_attained zero picks b s d o f a = a
  from_attained (suc fuel) picks b s d o f a =
      of_greatest Attained Part b 0 (length (variants_at doc.blocks b)) a
      (λ q from_on within. by q (slice_get (variants_at doc.blocks b) q) refl
      (λ v r o' f' a'. from_attained fuel (picks ++ q ∷ []) (picked_front doc.blocks b) r (d +ℤ pos v.demerits) o' f'
      a'))
    where
      Whole : ℕ → ℕ
      Whole q = max (reach_along still top (picked_front doc.blocks b) s (picked_stretch doc.blocks b q))
          (option_map_or (λ (r : Passed). reach_from fuel still top (picked_front doc.blocks b) r)
          (past_stretch still top s (picked_stretch doc.blocks b q)) 0)

      Part : ℕ → ℕ
      Part q = option_map_or (λ (v : Variant). Whole q) (slice_get (variants_at doc.blocks b) q) b

      Again : ℕ → Type 0
      Again q = (v : Variant) (r : Passed) →
          IsAt still top all from at (picks ++ q ∷ []) (picked_front doc.blocks b) r (d +ℤ pos v.demerits) →
          fits r.bound top ≡ true → Attained (picked_front doc.blocks b) →
          Attained (reach_from fuel still top (picked_front doc.blocks b) r)

      front_block : (m q : ℕ) (own : List Item) (ys : List FlatItem) (x : FlatItem) → 0 < length own →
          slice_get (variant_flat_items m q own ++ ys) 0 ≡ Some x → x.place.block ≡ m
      front_block m q [] ys x h e = absurd (omega (arith, h))
      front_block m q (item ∷ own) ys x h e =
          let same : ◌≡◌ {A = FlatItem} (record { place = place m 0 0; item = item; is_front = true }) x = cc in
          sym (ap (λ (y : FlatItem). y.place.block) same)

      by : (q : ℕ) (w : Option Variant) → slice_get (variants_at doc.blocks b) q ≡ w → Again q →
          Attained (option_map_or (λ (v : Variant). Whole q) w b)
      by q None e again = a
      by q (Some v) e again = onward (past_stretch still top s (picked_stretch doc.blocks b q)) refl
        where
          loose : is_loose_enough still.style v ≡ true
          loose = free_at doc.blocks b q v all e

          before : Before (picks ++ q ∷ []) (picked_front doc.blocks b) s (d +ℤ pos v.demerits)
              (picked_stretch doc.blocks b q)
          before = before_pick still top all from at picks b q s d v o e loose

          some : 0 < length (items_around doc.blocks (place b q 0))
          some = own_items still top all from at picks b q s d v o e

          near : Attained (reach_along still top (picked_front doc.blocks b) s (picked_stretch doc.blocks b q))
          near = along_attained (picks ++ q ∷ []) (picked_front doc.blocks b) s (d +ℤ pos v.demerits)
              (picked_stretch doc.blocks b q) before before.counted
              (λ x g. subst Attained (sym (front_block b q (items_around doc.blocks (place b q 0))
              (singles (b + 1) (drop (b + 1) doc.blocks)) x some g)) a)
              (λ z. absurd (let l = front_some b q (items_around doc.blocks (place b q 0))
              (singles (b + 1) (drop (b + 1) doc.blocks)) some in omega (arith, z, l)))
              (picked_stretch doc.blocks b q) 0 s (omega arith) refl refl f

          onward : (w : Option Passed) → past_stretch still top s (picked_stretch doc.blocks b q) ≡ w →
              Attained (max (reach_along still top (picked_front doc.blocks b) s (picked_stretch doc.blocks b q))
              (option_map_or (λ (r : Passed). reach_from fuel still top (picked_front doc.blocks b) r) w 0))
          onward None g = or_none
              (reach_along still top (picked_front doc.blocks b) s (picked_stretch doc.blocks b q)) near
          onward (Some r) g = of_either Attained
              (reach_along still top (picked_front doc.blocks b) s (picked_stretch doc.blocks b q))
              (reach_from fuel still top (picked_front doc.blocks b) r) near
              (again v r (past_before still top all from at (picks ++ q ∷ []) (picked_front doc.blocks b) s r
              (d +ℤ pos v.demerits) (picked_stretch doc.blocks b q) before g) fit
              (place (picked_front doc.blocks b) 0 0, (reached_front, refl)))
            where
              parts : (pass_items still s (picked_stretch doc.blocks b q) ≡ Some r) × (fits r.bound top ≡ true)
              parts = past_parts still top s r (picked_stretch doc.blocks b q) g

              fit : fits r.bound top ≡ true
              fit = parts.1

              reached_front : Reaches doc from (place (picked_front doc.blocks b) 0 0)
              reached_front = reached_at (picks ++ q ∷ []) (picked_front doc.blocks b) s (d +ℤ pos v.demerits)
                  (picked_stretch doc.blocks b q) before (length (picked_stretch doc.blocks b q))
                  (place (picked_front doc.blocks b) 0 0) r (inr (refl, refl)) before.full
                  (ap (pass_items still s) (take_all _ (picked_stretch doc.blocks b q) (le_refl _)) ∙ parts.0) fit

  attained : Attained (greatest_block still top from)
  attained = onward (past_stretch still top nothing lead) refl
    where
      before : Before [] front nothing (pos 0) lead
      before = start still top all from at

      none_here : fronts before.xs (length before.xs) + fronts lead 0 ≡ 0
      none_here = let c = before.counted 1 (omega arith) in omega (arith, c)

      first_here : (x : FlatItem) → slice_get lead 0 ≡ Some x → Attained x.place.block
      first_here x g = (
        x.place,
        (
          reached_at [] front nothing (pos 0) lead before 0 x.place nothing (inl (x, (g, refl))) none_here refl refl,
          refl,
        ),
      )

      near : Attained (reach_along still top front nothing lead)
      near = along_attained [] front nothing (pos 0) lead before before.counted first_here (λ z. none_here) lead 0
          nothing
          (omega arith) refl refl refl

      onward : (w : Option Passed) → past_stretch still top nothing lead ≡ w →
          Attained (max (reach_along still top front nothing lead)
          (option_map_or (λ (p : Passed). reach_from (length doc.blocks) still top front p) w 0))
      onward None g = or_none (reach_along still top front nothing lead) near
      onward (Some s) g = of_either Attained (reach_along still top front nothing lead)
          (reach_from (length doc.blocks) still top front s) near
          (from_attained (length doc.blocks) [] front s (pos 0)
          (past_before still top all from at [] front nothing s (pos 0) lead before g) parts.1
          (place front 0 0, (reached_front, refl)))
        where
          parts : (pass_items still nothing lead ≡ Some s) × (fits s.bound top ≡ true)
          parts = past_parts still top nothing s lead g

          reached_front : Reaches doc from (place front 0 0)
          reached_front = reached_at [] front nothing (pos 0) lead before (length lead) (place front 0 0) s
              (inr (refl, refl)) before.full (ap (pass_items still nothing) (take_all _ lead (le_refl _)) ∙ parts.0)
              parts.1

  pub reach_is : IsReach doc from (reach_of doc from)
  unfolding reach_of
  reach_is = record {
    last = attained.0;
    reached = attained.1.0;
    one_more = ap (λ (n : ℕ). n + 1) (sym attained.1.1);
    greatest = λ to r. let h = below to r in omega (arith, h);
  }

  -- where the first stretch is not passed
  pub stretch_tells : past_stretch still top nothing lead ≡ None →
      IsReach doc from (reach_along still top front nothing lead + 1)
  unfolding reach_of
  stretch_tells e =
      let z : max (reach_along still top front nothing lead) 0 ≡ reach_along still top front nothing lead =
      omega arith in
      subst (λ (n : ℕ). IsReach doc from (n + 1))
      (ap (λ (o : Option Passed). max (reach_along still top front nothing lead)
      (option_map_or (λ (p : Passed). reach_from (length doc.blocks) still top front p) o 0)) e ∙ z) reach_is

  -- no reach is beyond the galley's end
  pub reach_within : (n : ℕ) → IsReach doc from n → n ≤ length doc.blocks + 1
  reach_within n r =
      let picked = both_of _ _ r.reached.picked in
      by (ends_at doc.blocks from r.last r.reached.picks r.reached.size all at (eqb-true _ _ picked.1) r.reached.leads)
    where
      by : (r.last ≡ from) ⊎ IsPast doc.blocks from r.last → n ≤ length doc.blocks + 1
      by (inl e) =
          let here = place_within doc.blocks from at in
          let same = ap (λ (p : Place). p.block) e in
          let more = r.one_more in omega (arith, here, same, more)
      by (inr past) =
          let there = place_within doc.blocks r.last past.place in
          let more = r.one_more in omega (arith, there, more)

  -- where no choice is behind the first stretch
  pub stretch_alone : variants_at doc.blocks front ≡ [] →
      IsReach doc from (reach_along still top front nothing lead + 1)
  unfolding reach_of
  stretch_alone last = by (past_stretch still top nothing lead) refl
    where
      here : ℕ
      here = reach_along still top front nothing lead

      none_from : (f : ℕ → ℕ) (b n : ℕ) → n ≡ 0 → greatest_from f b 0 n ≡ b
      none_from f b zero e = refl
      none_from f b (suc n) e = absurd cc

      none_behind : (fuel : ℕ) (p : Passed) → reach_from fuel still top front p ≡ front
      none_behind zero p = refl
      none_behind (suc fuel) p = none_from _ front (length (variants_at doc.blocks front)) (ap length last)

      by : (o : Option Passed) → past_stretch still top nothing lead ≡ o → IsReach doc from (here + 1)
      by None e = stretch_tells e
      by (Some s) e =
          let parts = past_parts still top nothing s lead e in
          let low : front ≤ here = along_below front (place front 0 0) nothing s lead (length lead) (inr (refl, refl))
          (ap (pass_items still nothing) (take_all _ lead (le_refl _)) ∙ parts.0) parts.1 in
          let whole : max here front ≡ here = omega (arith, low) in
          subst (λ (n : ℕ). IsReach doc from (n + 1))
          (ap (λ (o : Option Passed). max here
          (option_map_or (λ (p : Passed). reach_from (length doc.blocks) still top front p) o 0)) e
          ∙ (ap (λ (n : ℕ). max here n) (none_behind (length doc.blocks) s) ∙ whole)) reach_is
