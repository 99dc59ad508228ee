-- The number `reach_at` is the reach of each place of a galley.
use Rattle.std.proofs.Common.{◌≡◌, refl, sym, ap, subst, ◌∙◌, ℕ, zero, suc, ◌+◌, ◌≤◌, ◌<◌, ◌⊎◌, inl, inr, List, [], ◌∷◌, length, map, Bool, true, false, Option, Some, None, arith}
use Rattle.std.specs.Prelude.{◌&&◌, ◌==◌, cond, if◌then◌else◌, nat_le, nat_lt, not, slice_get}
use Rattle.std.specs.List.{AllByRecursion, flat_map, position, position_or_len, range_with_len}
use Rattle.std.specs.Option.{option_map_or}
use Rattle.std.proofs.lemmas.Option.{slice_get_within}
use Rattle.std.proofs.lemmas.Bool.Decides.{nat_tests}
use Rattle.pg_list.specs.Shapes.{IsBlock}
use Rattle.pg_list.specs.declared.blocks.Block.{Block}
use Rattle.pg_list.specs.declared.blocks.Block.TheVariants.{One, Choice}
use Rattle.pg_list.specs.declared.galley.Place.{Place}
use Rattle.pg_list.specs.Flat.{FlatItem, blocks_at, end_of, flat_items_at, fronts, is_same_place, picked_variants, steps_to}
use Rattle.pg_rules.specs.IsState.{IsPlace}
use Rattle.pg_rules.specs.Reach.{IsReach, Reaches}
use Rattle.pg_rules.specs.Room.{Document}
use Rattle.law_places.proofs.Splits.{StandsAt, stands_at}
use Rattle.law_places.proofs.Among.{Among}
use Rattle.pg_lemmas.proofs.Bools.{both, both_of, by_bool, if_false, if_true}
use Rattle.law_places.proofs.Places.{Leads, leads, pick_named}
use Rattle.law_places.proofs.Tests.{place_refl}
use Rattle.pg_list.proofs.Places.{picked_few, same_place}
use Rattle.pg_lemmas.proofs.Numbers.{eq_refl, less_of, le_true}
use Rattle.std.proofs.lemmas.Bool.{eqb-true}
use Rattle.law_space.specs.ReachAt.{all_picks, does_reach, is_size, most, place_after, reach_at, reach_by, reaches_by}
use Rattle.law_places.proofs.Members.{below_in, in_flat, in_map, of_flat, of_map}
use Rattle.law_space.proofs.Picks.{named, rest_named}

-- ---- the greatest of numbers

not_le : (a b : ℕ) → nat_le a b ≡ false → b < a
not_le a b h = grind (arith, nat_tests)

most_above : (x : ℕ) (xs : List ℕ) → Among x xs → x ≤ most xs
most_above x [] a = absurd a
most_above x (y ∷ xs) a = by (nat_le (most xs) y) refl a (λ b. most_above x xs b)
  where
    by : (t : Bool) → t ≡ nat_le (most xs) y → (y ≡ x) ⊎ Among x xs → (Among x xs → x ≤ most xs) →
        x ≤ (if t then y else most xs)
    by true e (inl q) later = omega arith
    by true e (inr b) later = let l : most xs ≤ y = le_true _ _ (sym e) in let k : x ≤ most xs = later b in
        omega arith
    by false e (inl q) later = let l : y < most xs = not_le _ _ (sym e) in omega arith
    by false e (inr b) later = later b

most_among : (xs : List ℕ) → 0 < most xs → Among (most xs) xs
most_among [] h = absurd (omega arith)
most_among (y ∷ xs) h = by (nat_le (most xs) y) h (λ k. most_among xs k)
  where
    by : (t : Bool) → 0 < (if t then y else most xs) → (0 < most xs → Among (most xs) xs) →
        (y ≡ (if t then y else most xs)) ⊎ Among (if t then y else most xs) xs
    by true h later = inl refl
    by false h later = inr (later h)

-- ---- places

first_there : {X : Type 0} (p : X → Bool) (x : X) (xs : List X) → p x ≡ true → position p (x ∷ xs) ≡ Some 0
first_there p x xs t = by (p x) t
  where
    by : (b : Bool) → b ≡ true →
        (if nat_lt (cond (not b) (1 + position_or_len p xs) 0) (suc (length xs))
        then Some (cond (not b) (1 + position_or_len p xs) 0) else None) ≡ Some 0
    by true e = if_true (nat_lt 0 (suc (length xs))) _ _ (less_of 0 (suc (length xs)) (omega arith))
    by false e = absurd cc

-- ---- picks

-- picks of which each names a variant are among all picks
picks_among : (blocks : List Block) (p : List ℕ) → named blocks p ≡ length p → Among p (all_picks blocks)
picks_among [] [] h = inl refl
picks_among [] (y ∷ p) h = absurd (omega arith)
picks_among (One item ∷ blocks) p h = picks_among blocks p h
picks_among (Choice variants ∷ blocks) [] h = inl refl
picks_among (Choice variants ∷ blocks) (y ∷ p) h =
    let v = pick_named variants blocks y p h in
    let l : y < length variants = slice_get_within variants y v.0 v.1 in
    inr (in_flat (λ (pick : ℕ). map (λ (picks : List ℕ). pick ∷ picks) (all_picks blocks))
    (range_with_len 0 (length variants)) y (y ∷ p) (below_in (length variants) y l)
    (in_map (λ (picks : List ℕ). y ∷ picks) (all_picks blocks) p
    (picks_among blocks p (rest_named variants blocks y p h))))

module _ (doc : Document) where
  -- the place that is reached is the one behind as many items
  stands_after : (xs : List FlatItem) (n : ℕ) (to : Place) → StandsAt doc.blocks xs n to →
      (place_after doc.blocks xs n ≡ to) × (n < length xs + 1)
  stands_after xs n to (inl (x, (at, is))) =
      let l : n < length xs = slice_get_within xs n x at in
      (ap (λ (o : Option FlatItem). option_map_or (λ (x : FlatItem). x.place) o (end_of doc.blocks)) at ∙ is, omega arith)
  stands_after xs n to (inr (e, t)) = (
    ap (λ (o : Option FlatItem). option_map_or (λ (x : FlatItem). x.place) o (end_of doc.blocks))
        (past xs n (omega arith)) ∙ sym t,
    omega arith,
  )
    where
      past : (xs : List FlatItem) (n : ℕ) → length xs ≤ n → slice_get xs n ≡ None
      past [] n h = refl
      past (x ∷ xs) zero h = absurd (omega arith)
      past (x ∷ xs) (suc n) h = past xs n (omega arith)

  size_of_some : (o : Option ℕ) (n : ℕ) → o ≡ Some n → is_size o n ≡ true
  size_of_some o n e = ap (λ (x : Option ℕ). is_size x n) e ∙ eq_refl n

  some_of_size : (o : Option ℕ) (n : ℕ) → is_size o n ≡ true → o ≡ Some n
  some_of_size None n e = absurd cc
  some_of_size (Some k) n e = ap Some (eqb-true k n e)

  reached_test : (from to : Place) (r : Reaches doc from to) →
      (does_reach doc from r.picks r.size ≡ true)
      × ((place_after doc.blocks (flat_items_at doc.blocks from r.picks) r.size ≡ to)
      × (r.size < length (flat_items_at doc.blocks from r.picks) + 1))
  reached_test from to r =
      let s = stands_after (flat_items_at doc.blocks from r.picks) r.size to
      (stands_at doc.blocks (flat_items_at doc.blocks from r.picks) to r.size r.leads) in (
        both (is_size (steps_to doc.blocks (flat_items_at doc.blocks from r.picks)
            (place_after doc.blocks (flat_items_at doc.blocks from r.picks) r.size)) r.size) _
            (size_of_some _ r.size (ap (steps_to doc.blocks (flat_items_at doc.blocks from r.picks)) s.0 ∙ r.leads))
            (both ((fronts (flat_items_at doc.blocks from r.picks) r.size == length r.picks)
            && (length (picked_variants (blocks_at doc.blocks from) r.picks) == length r.picks)) _ r.picked r.passes),
        s,
      )

  test_reached : (from : Place) (p : List ℕ) (n : ℕ) → does_reach doc from p n ≡ true →
      Reaches doc from (place_after doc.blocks (flat_items_at doc.blocks from p) n)
  test_reached from p n h =
      let a = both_of (is_size (steps_to doc.blocks (flat_items_at doc.blocks from p)
      (place_after doc.blocks (flat_items_at doc.blocks from p) n)) n) _ h in
      let b = both_of ((fronts (flat_items_at doc.blocks from p) n == length p)
      && (length (picked_variants (blocks_at doc.blocks from) p) == length p)) _ a.1 in
      record { picks = p; size = n; leads = some_of_size _ n a.0; picked = b.0; passes = b.1 }

  -- no picks name no variants
  pub none_named : (from : Place) → named (blocks_at doc.blocks from) [] ≡ 0
  none_named from = let k : named (blocks_at doc.blocks from) [] ≤ 0 = picked_few (blocks_at doc.blocks from) [] in
      omega arith

  -- a place leads to itself by no items
  pub own_steps : AllByRecursion IsBlock doc.blocks → (from : Place) → IsPlace doc.blocks from →
      steps_to doc.blocks (flat_items_at doc.blocks from []) from ≡ Some 0
  own_steps each from place = here (flat_items_at doc.blocks from [])
      (leads doc.blocks from [] each place (none_named from))
    where
      here : (xs : List FlatItem) → Leads doc.blocks from xs → steps_to doc.blocks xs from ≡ Some 0
      here [] l = if_true (is_same_place from (end_of doc.blocks)) (Some 0) _
          (subst (λ (at : Place). is_same_place from at ≡ true) l (place_refl from))
      here (x ∷ xs) l = by_bool (is_same_place from (end_of doc.blocks))
          (λ t. let e : from.block ≡ length doc.blocks = ap (λ (at : Place). at.block)
          (same_place from (end_of doc.blocks) t) in let k : from.block < length doc.blocks = l.1.1 in absurd (omega arith))
          (λ f. if_false (is_same_place from (end_of doc.blocks)) (Some (length (x ∷ xs))) _ f
          ∙ first_there (λ (it : FlatItem). is_same_place it.place from) x xs
          (subst (λ (at : Place). is_same_place at from ≡ true) (sym l.0) (place_refl from)))

  -- a place reaches itself
  pub reaches_itself : AllByRecursion IsBlock doc.blocks → (from : Place) → IsPlace doc.blocks from → Reaches doc from from
  reaches_itself each from place = record {
    picks = [];
    size = 0;
    leads = own_steps each from place;
    picked = both (0 == 0) _ refl (ap (λ (n : ℕ). n == 0) (none_named from));
    passes = refl;
  }

  pub reach_is : AllByRecursion IsBlock doc.blocks → (from : Place) → IsPlace doc.blocks from →
      IsReach doc from (reach_at doc from)
  unfolding reach_at
  reach_is each from place = by refl
    where
      above : (to : Place) → Reaches doc from to → to.block + 1 ≤ most
          (flat_map (reaches_by doc from) (all_picks (blocks_at doc.blocks from)))
      above to r =
          let t = reached_test from to r in
          let n : named (blocks_at doc.blocks from) r.picks ≡ length r.picks =
          eqb-true _ _ (both_of (fronts (flat_items_at doc.blocks from r.picks) r.size == length r.picks) _ r.picked).1 in
          let v : reach_by doc from r.picks r.size ≡ to.block + 1 =
          if_true (does_reach doc from r.picks r.size) _ 0 t.0 ∙ ap (λ (at : Place). at.block + 1) t.1.0 in
          subst (λ (k : ℕ). k ≤ most (flat_map (reaches_by doc from) (all_picks (blocks_at doc.blocks from)))) v
          (most_above (reach_by doc from r.picks r.size) _
          (in_flat (reaches_by doc from) (all_picks (blocks_at doc.blocks from)) r.picks
          (reach_by doc from r.picks r.size) (picks_among (blocks_at doc.blocks from) r.picks n)
          (in_map (reach_by doc from r.picks) (range_with_len 0 (length (flat_items_at doc.blocks from r.picks) + 1))
          r.size (below_in (length (flat_items_at doc.blocks from r.picks) + 1) r.size t.1.1))))

      found : (m : ℕ) → 0 < m → (p : List ℕ) (n : ℕ) → reach_by doc from p n ≡ m →
          (to : Place) × (Reaches doc from to × (m ≡ to.block + 1))
      found m h p n e = by_bool (does_reach doc from p n)
          (λ t. (
            place_after doc.blocks (flat_items_at doc.blocks from p) n,
            (test_reached from p n t, sym e ∙ if_true (does_reach doc from p n) _ 0 t),
          ))
          (λ f. let z : reach_by doc from p n ≡ 0 = if_false (does_reach doc from p n) _ 0 f in absurd (omega arith))

      last_at : {m : ℕ} → (to : Place) × (Reaches doc from to × (m ≡ to.block + 1)) →
          m ≡ most (flat_map (reaches_by doc from) (all_picks (blocks_at doc.blocks from))) → IsReach doc from m
      last_at (to, (r, is)) e = record {
        last = to;
        reached = r;
        one_more = is;
        greatest = λ to r. subst (λ (k : ℕ). to.block + 1 ≤ k) (sym e) (above to r);
      }

      by : {m : ℕ} → m ≡ most (flat_map (reaches_by doc from) (all_picks (blocks_at doc.blocks from))) →
          IsReach doc from m
      by {m} e =
          let own : from.block + 1 ≤ most (flat_map (reaches_by doc from) (all_picks (blocks_at doc.blocks from))) =
          above from (reaches_itself each from place) in
          of_flat {P = IsReach doc from m} (reaches_by doc from) (all_picks (blocks_at doc.blocks from)) _
          (most_among _ (omega arith)) (λ p a b. of_map {P = IsReach doc from m} (reach_by doc from p)
          (range_with_len 0 (length (flat_items_at doc.blocks from p) + 1)) _ b
          (λ n d is. last_at (found m (omega arith) p n (is ∙ sym e)) e))
