-- An end put in at its spot among ends that are in order.
use Rattle.std.proofs.Common.{◌≡◌, refl, sym, ap, ◌∙◌, subst, ℕ, zero, suc, ◌-◌, ◌≤◌, ◌<◌, List, [], ◌∷◌, ◌++◌, length, arith, Bool, true, false}
use Rattle.std.specs.Prelude.{if◌then◌else◌, get_or, option_map, slice_get, slice_set}
use Rattle.std.specs.List.{AllWithin, insert}
use Rattle.std.specs.List.Sorted.{IsPartitionedBy, IsPartitionPoint}
use Rattle.std.specs.Ordering.{ordering_reverse}
use Rattle.std.specs.declared.cmp.Ordering.{Ordering}
use Rattle.std.specs.declared.cmp.Ordering.TheVariants.{Less, Equal, Greater}
use Rattle.std.proofs.lemmas.List.{get_or_default}
use Rattle.pg_column.specs.declared.end.End.{End}
use Rattle.law_walk.specs.Best.{Ascend, IsFirst, end_cmp, insert_end, is_better, placed_by}
use Rattle.law_walk.proofs.BestLaws.{end_total}
use Rattle.pg_candidates.specs.RoomEnds.{end_of, ends_of}
use Rattle.pg_candidates.specs.Spots.{is_before, is_less, spot_by, spot_in}
use Rattle.pg_candidates.specs.declared.best.Spot.{Spot}
use Rattle.pg_candidates.specs.declared.best.Spot.TheVariants.{Before, Instead, Nowhere}
use Rattle.pg_candidates.specs.declared.room_end.RoomEnd.{RoomEnd}

less_is : (o : Ordering) → is_less o ≡ true → o ≡ Less
less_is Less e = refl
less_is Equal e = absurd cc
less_is Greater e = absurd cc

-- ---- at it an end is put in

abbrev pub put : Spot → List RoomEnd → ℕ → RoomEnd → List RoomEnd
put Before fs i e = insert fs i e
put Instead fs i e = slice_set fs i e
put Nowhere fs i e = fs

abbrev pub Point : RoomEnd → List RoomEnd → ℕ → Type 0
Point e fs i = IsPartitionPoint (λ f. is_before f e ≡ true) (λ f. is_before f e ≡ false) fs i

put_more : (s : Spot) (f : RoomEnd) (fs : List RoomEnd) (i : ℕ) (e : RoomEnd) →
    put s (f ∷ fs) (suc i) e ≡ f ∷ put s fs i e
put_more Before f fs i e = refl
put_more Instead f fs i e = refl
put_more Nowhere f fs i e = refl

module _ (ps : List (List ℕ)) where
  -- ---- what is in order has a partition point

  first_at : (f : RoomEnd) (fs : List RoomEnd) (k : ℕ) (d : RoomEnd) → IsFirst (end_of ps f) (ends_of ps fs) →
      k < length fs → end_cmp (end_of ps f) (end_of ps (get_or fs k d)) ≡ Less
  first_at f [] k d h l = absurd (omega (arith, l))
  first_at f (g ∷ fs) zero d h l = h.0
  first_at f (g ∷ fs) (suc k) d h l = first_at f fs k d h.1 (omega (arith, l))

  before_chain : (f g e : RoomEnd) → end_cmp (end_of ps f) (end_of ps g) ≡ Less → is_before g e ≡ true →
      is_before f e ≡ true
  before_chain f g e p q =
      ap is_less (end_total.trans (end_of ps f) (end_of ps g) (end_of ps e) p
      (less_is (end_cmp (end_of ps g) (end_of ps e)) q))

  pub parted : (e : RoomEnd) (fs : List RoomEnd) → Ascend (ends_of ps fs) → IsPartitionedBy (λ f. is_before f e) fs
  parted e [] h i j d le l t = absurd (omega (arith, l))
  parted e (f ∷ fs) h zero zero d le l t = t
  parted e (f ∷ fs) h zero (suc j) d le l t =
      before_chain f (get_or fs j d) e (first_at f fs j d h.0 (omega (arith, l))) t
  parted e (f ∷ fs) h (suc i) zero d le l t = absurd (omega (arith, le))
  parted e (f ∷ fs) h (suc i) (suc j) d le l t = parted e fs h.1 i j d (omega (arith, le)) (omega (arith, l)) t

  -- ---- what is put in at it

  turned : (e f : End) (o : Ordering) → end_cmp f e ≡ o → end_cmp e f ≡ ordering_reverse o
  turned e f o p = end_total.antisymm e f ∙ ap ordering_reverse p

  put_first : (e f : RoomEnd) (fs : List RoomEnd) (o : Ordering) → end_cmp (end_of ps e) (end_of ps f) ≡ o →
      is_less (ordering_reverse o) ≡ false →
      ends_of ps (put (spot_by o (is_better (end_of ps e) (end_of ps f))) (f ∷ fs) 0 e)
      ≡ placed_by o (end_of ps e) (end_of ps f) (ends_of ps fs) (insert_end (end_of ps e) (ends_of ps fs))
  put_first e f fs Less p n = refl
  put_first e f fs Equal p n = by (is_better (end_of ps e) (end_of ps f))
    where
      by : (b : Bool) → ends_of ps (put (if b then Instead else Nowhere) (f ∷ fs) 0 e)
          ≡ (if b then end_of ps e else end_of ps f) ∷ ends_of ps fs
      by true = refl
      by false = refl
  put_first e f fs Greater p n = absurd cc

  pub put_is : (e : RoomEnd) (fs : List RoomEnd) (i : ℕ) → i ≤ length fs → Point e fs i →
      ends_of ps (put (spot_in (option_map (end_of ps) (slice_get fs i)) (end_of ps e)) fs i e)
      ≡ insert_end (end_of ps e) (ends_of ps fs)
  put_is e [] zero le point = refl
  put_is e [] (suc i) le point = absurd (omega (arith, le))
  put_is e (f ∷ fs) zero le point =
      let no : is_before f e ≡ false = point.1 0 f (omega arith) (omega arith) in
      let back : end_cmp (end_of ps f) (end_of ps e) ≡ ordering_reverse (end_cmp (end_of ps e) (end_of ps f)) =
      end_total.antisymm (end_of ps f) (end_of ps e) in
      put_first e f fs (end_cmp (end_of ps e) (end_of ps f)) refl (ap is_less (sym back) ∙ no)
  put_is e (f ∷ fs) (suc i) le point =
      let yes : end_cmp (end_of ps f) (end_of ps e) ≡ Less =
      less_is (end_cmp (end_of ps f) (end_of ps e)) (point.0 0 f (omega arith) (omega arith)) in
      let rest : ends_of ps (put (spot_in (option_map (end_of ps) (slice_get fs i)) (end_of ps e)) fs i e)
      ≡ insert_end (end_of ps e) (ends_of ps fs) =
      put_is e fs i (omega (arith, le)) (
        (λ k d lo hi. point.0 (suc k) d (omega arith) (omega (arith, hi))),
        (λ k d lo hi. point.1 (suc k) d (omega (arith, lo)) (omega (arith, hi))),
      ) in
      ap (ends_of ps) (put_more (spot_in (option_map (end_of ps) (slice_get fs i)) (end_of ps e)) f fs i e)
      ∙ (ap (λ (gs : List End). end_of ps f ∷ gs) rest
      ∙ sym (ap (λ (o : Ordering). placed_by o (end_of ps e) (end_of ps f) (ends_of ps fs)
      (insert_end (end_of ps e) (ends_of ps fs))) (turned (end_of ps e) (end_of ps f) Less yes)))

  -- found in a copy of the list
  pub put_found : (e : RoomEnd) (fs xs ys : List RoomEnd) (i : ℕ) (s : Spot) → Ascend (ends_of ps fs) → xs ≡ fs →
      ys ≡ fs → i ≤ length xs → (IsPartitionedBy (λ f. is_before f e) xs → Point e xs i) →
      s ≡ spot_in (option_map (end_of ps) (slice_get ys i)) (end_of ps e) →
      ends_of ps (put s fs i e) ≡ insert_end (end_of ps e) (ends_of ps fs)
  put_found e fs xs ys i s h p q le point at =
      let there : Point e fs i =
      subst (λ (zs : List RoomEnd). Point e zs i) p
      (point (subst (IsPartitionedBy (λ f. is_before f e)) (sym p) (parted e fs h))) in
      ap (λ (t : Spot). ends_of ps (put t fs i e)) at
      ∙ (ap (λ (zs : List RoomEnd). ends_of ps (put (spot_in (option_map (end_of ps) (slice_get zs i)) (end_of ps e))
      fs i e)) q
      ∙ put_is e fs i (subst (λ (zs : List RoomEnd). i ≤ length zs) p le) there)

  -- ---- an end behind all others

  last_put : (e : RoomEnd) (fs : List RoomEnd) → AllWithin (λ f. is_before f e ≡ true) fs 0 (length fs) →
      ends_of ps (fs ++ e ∷ []) ≡ insert_end (end_of ps e) (ends_of ps fs)
  last_put e [] all = refl
  last_put e (f ∷ fs) all =
      let less : end_cmp (end_of ps f) (end_of ps e) ≡ Less =
      less_is (end_cmp (end_of ps f) (end_of ps e)) (all 0 f (omega arith) (omega arith)) in
      let rest : ends_of ps (fs ++ e ∷ []) ≡ insert_end (end_of ps e) (ends_of ps fs) =
      last_put e fs (λ k d lo hi. all (suc k) d (omega arith) (omega (arith, hi))) in
      ap (λ (gs : List End). end_of ps f ∷ gs) rest
      ∙ sym (ap (λ (o : Ordering). placed_by o (end_of ps e) (end_of ps f) (ends_of ps fs)
      (insert_end (end_of ps e) (ends_of ps fs))) (turned (end_of ps e) (end_of ps f) Less less))

  -- found in a copy of the list
  pub put_last : (e : RoomEnd) (fs xs gs : List RoomEnd) → Ascend (ends_of ps fs) → xs ≡ fs → gs ≡ fs ++ e ∷ [] →
      (IsPartitionedBy (λ f. is_before f e) xs → AllWithin (λ f. is_before f e ≡ true) xs 0 (length xs)) →
      ends_of ps gs ≡ insert_end (end_of ps e) (ends_of ps fs)
  put_last e fs xs gs h p q all =
      let there : AllWithin (λ f. is_before f e ≡ true) fs 0 (length fs) =
      subst (λ (zs : List RoomEnd). AllWithin (λ f. is_before f e ≡ true) zs 0 (length zs)) p
      (all (subst (IsPartitionedBy (λ f. is_before f e)) (sym p) (parted e fs h))) in
      ap (ends_of ps) q ∙ last_put e fs there

-- ---- the point is behind the last end that stands before

pub point_behind : (e : RoomEnd) (fs : List RoomEnd) (i : ℕ) (f : RoomEnd) → 0 < i → i ≤ length fs →
    is_before (get_or fs (i - 1) f) e ≡ true → AllWithin (λ g. is_before g e ≡ false) fs i (length fs) →
    IsPartitionedBy (λ g. is_before g e) fs → Point e fs i
point_behind e fs i f more within before behind by = (
  λ k d lo hi. by k (i - 1) d (omega (arith, hi)) (omega (arith, more, within))
      (ap (λ (g : RoomEnd). is_before g e) (get_or_default fs (i - 1) d f (omega (arith, more, within))) ∙ before),
  behind,
)

-- ---- all stand before where the last one does

pub all_before : (e : RoomEnd) (fs : List RoomEnd) (f : RoomEnd) → 0 < length fs →
    is_before (get_or fs (length fs - 1) f) e ≡ true → IsPartitionedBy (λ g. is_before g e) fs →
    AllWithin (λ g. is_before g e ≡ true) fs 0 (length fs)
all_before e fs f more before by = λ k d lo hi.
    by k (length fs - 1) d (omega (arith, hi)) (omega (arith, more))
    (ap (λ (g : RoomEnd). is_before g e) (get_or_default fs (length fs - 1) d f (omega (arith, more))) ∙ before)
