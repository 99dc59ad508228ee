-- What follows a state follows each that is no worse, at no greater cost, to a state that is no worse.
use Rattle.std.proofs.Common.{◌≡◌, refl, sym, ap, subst, ℕ, ◌+◌, ◌≤◌, ◌<◌, List, [], ◌∷◌, map, length, Bool, true, false, arith, Option, Some, None}
use Rattle.std.specs.Prelude.{◌==◌, if◌then◌else◌, nat_lt, nat_le, ℤ, pos, ◌+ℤ◌, ◌≤ℤ◌, slice_index}
use Rattle.std.proofs.lemmas.Bool.Decides.{nat_tests, Decides-int_eq}
use Rattle.std.proofs.lemmas.Int.{ints}
use Rattle.pg_list.specs.declared.galley.Place.{Place}
use Rattle.pg_plan.specs.declared.pages.PageMove.{PageMove}
use Rattle.pg_plan.specs.declared.states.Side.{Side}
use Rattle.pg_plan.specs.declared.states.Side.TheVariants.{L, R, S}
use Rattle.pg_plan.specs.declared.states.State.{State}
use Rattle.pg_list.specs.Flat.{is_same_place}
use Rattle.pg_rules.specs.Room.{Document, ColumnContext}
use Rattle.pg_list.specs.Whole.{whole_sum_by}
use Rattle.pg_rules.specs.Floats.{called, float_numbers, floats_between}
use Rattle.pg_rules.specs.History.{is_called, placed_after}
use Rattle.pg_rules.specs.Legal.{added}
use Rattle.pg_rules.specs.Floats.{distance_table}
use Rattle.pg_rules.specs.Cost.{column_cost, float_demerits, column_demerits, pick_demerits, run_demerits, fitness_demerits}
use Rattle.std.proofs.Common.{inl, inr}
use Rattle.pg_rules.specs.Follow.{is_same_float, age_among, age_in, waiting_in, turns, waiting_behind, next_state, context_in, may_turn, Follow}
use Rattle.pg_plan.specs.declared.states.PageKey.{PageKey}
use Rattle.pg_rules.specs.NoWorse.{key, is_same_key, is_same_side, is_same_number, is_same_whole, are_same_counts, are_no_older, is_no_worse}
use Rattle.pg_rules.specs.IsState.{IsState, are_young}
use Rattle.law_places.proofs.Among.{Among, all_at, all_of}
use Rattle.law_places.proofs.Tests.{place_refl}
use Rattle.law_columns.specs.FollowsToo.{FollowsToo}
use Rattle.law_columns.proofs.Ages.{same_float}
use Rattle.law_columns.proofs.Waiting.{IsBetween, between_at}
use Rattle.pg_lemmas.proofs.Bools.{both_of, both}
use Rattle.std.proofs.lemmas.Bool.{eqb-true, leb-true, le-leb}
use Rattle.pg_lemmas.proofs.Numbers.{eq_refl, less_of, less_true}
use Rattle.pg_list.proofs.Places.{same_place}

-- ---- the tests on keys

side_same : (a b : Side) → is_same_side a b ≡ true → a ≡ b
side_same L L e = refl
side_same R R e = refl
side_same S S e = refl
side_same L R e = absurd cc
side_same L S e = absurd cc
side_same R L e = absurd cc
side_same R S e = absurd cc
side_same S L e = absurd cc
side_same S R e = absurd cc

side_refl : (a : Side) → is_same_side a a ≡ true
side_refl L = refl
side_refl R = refl
side_refl S = refl

pub number_same : (a b : Option ℕ) → is_same_number a b ≡ true → a ≡ b
number_same None None e = refl
number_same None (Some b) e = absurd cc
number_same (Some a) None e = absurd cc
number_same (Some a) (Some b) e = ap (λ (z : ℕ). Some z) (eqb-true a b e)

number_refl : (a : Option ℕ) → is_same_number a a ≡ true
number_refl None = refl
number_refl (Some a) = eq_refl a

whole_same : (a b : Option ℤ) → is_same_whole a b ≡ true → a ≡ b
whole_same None None e = refl
whole_same None (Some b) e = absurd cc
whole_same (Some a) None e = absurd cc
whole_same (Some a) (Some b) e = ap (λ (z : ℤ). Some z) ((Decides-int_eq a b).0 e)

whole_refl : (a : Option ℤ) → is_same_whole a a ≡ true
whole_refl None = refl
whole_refl (Some a) = (Decides-int_eq a a).1 refl

counts_same : (a b : List ℕ) → are_same_counts a b ≡ true → a ≡ b
counts_same [] [] e = refl
counts_same [] (y ∷ ys) e = absurd cc
counts_same (x ∷ xs) [] e = absurd cc
counts_same (x ∷ xs) (y ∷ ys) e = let t = both_of (x == y) (are_same_counts xs ys) e in let p : x ≡ y =
    eqb-true x y t.0 in let q : xs ≡ ys = counts_same xs ys t.1 in cc

pub counts_refl : (a : List ℕ) → are_same_counts a a ≡ true
counts_refl [] = refl
counts_refl (x ∷ xs) = both (x == x) (are_same_counts xs xs) (eq_refl x) (counts_refl xs)

pub key_refl : (a : PageKey) → is_same_key a a ≡ true
key_refl a = both (is_same_place a.place a.place) _ (place_refl a.place)
    (both (a.column == a.column) _ (eq_refl a.column)
    (both (is_same_side a.side a.side) _ (side_refl a.side)
    (both (is_same_number a.run a.run) _ (number_refl a.run)
    (both (is_same_whole a.wide a.wide) _ (whole_refl a.wide)
    (both (is_same_number a.fitness a.fitness) _ (number_refl a.fitness) (counts_refl a.placed))))))

same_key_of : (p p' : Place) (c c' : ℕ) (s s' : Side) (r r' : Option ℕ) (doc doc' : Option ℤ)
    (f f' : Option ℕ) (d d' : List ℕ) → p ≡ p' → c ≡ c' → s ≡ s' → r ≡ r' → doc ≡ doc' → f ≡ f' → d ≡ d' →
    ◌≡◌ {A = PageKey} (record { place = p; column = c; side = s; run = r; wide = doc; fitness = f; placed = d })
    (record { place = p'; column = c'; side = s'; run = r'; wide = doc'; fitness = f'; placed = d' })
same_key_of p p' c c' s s' r r' doc doc' f f' d d' h1 h2 h3 h4 h5 h6 h7 = cc

pub key_same : (a b : PageKey) → is_same_key a b ≡ true → a ≡ b
key_same a b e =
    let t1 = both_of (is_same_place a.place b.place) _ e in
    let t2 = both_of (a.column == b.column) _ t1.1 in
    let t3 = both_of (is_same_side a.side b.side) _ t2.1 in
    let t4 = both_of (is_same_number a.run b.run) _ t3.1 in
    let t5 = both_of (is_same_whole a.wide b.wide) _ t4.1 in
    let t6 = both_of (is_same_number a.fitness b.fitness) (are_same_counts a.placed b.placed) t5.1 in
    same_key_of a.place b.place a.column b.column a.side b.side a.run b.run a.wide b.wide a.fitness b.fitness a.placed
    b.placed
    (same_place _ _ t1.0) (eqb-true _ _ t2.0) (side_same _ _ t3.0) (number_same _ _ t4.0) (whole_same _ _ t5.0)
    (number_same _ _ t6.0) (counts_same _ _ t6.1)

-- ---- ages

abbrev pub with_ages : PageKey → List ℕ → State
with_ages k ages = record {
  place = k.place;
  column = k.column;
  side = k.side;
  run = k.run;
  wide =
      k.wide;
  fitness = k.fitness;
  placed = k.placed;
  ages = ages;
}

pub no_older_refl : (a : List ℕ) → are_no_older a a ≡ true
no_older_refl [] = refl
no_older_refl (x ∷ xs) = both (nat_le x x) (are_no_older xs xs) (let h : x ≤ x = omega arith in
    grind (arith, nat_tests)) (no_older_refl xs)

pub no_older_chain : (a b c : List ℕ) → are_no_older a b ≡ true → are_no_older b c ≡ true →
    are_no_older a c ≡ true
no_older_chain [] [] [] p q = refl
no_older_chain [] [] (z ∷ zs) p q = q
no_older_chain [] (y ∷ ys) c p q = absurd cc
no_older_chain (x ∷ xs) [] c p q = absurd cc
no_older_chain (x ∷ xs) (y ∷ ys) [] p q = absurd cc
no_older_chain (x ∷ xs) (y ∷ ys) (z ∷ zs) p q =
    let s = both_of (nat_le x y) (are_no_older xs ys) p in
    let t = both_of (nat_le y z) (are_no_older ys zs) q in
    let h : x ≤ y = leb-true x y s.0 in
    let k : y ≤ z = leb-true y z t.0 in
    both (nat_le x z) (are_no_older xs zs) (le-leb x z (omega arith)) (no_older_chain xs ys zs s.1 t.1)

if_less : (b : Bool) (x y x' y' : ℕ) → x ≤ x' → y ≤ y' → (if b then x else y) ≤ (if b then x' else y')
if_less true x y x' y' h k = h
if_less false x y x' y' h k = k

among_less : (floats : List (ℕ × ℕ)) (a b : List ℕ) (float : ℕ × ℕ) → are_no_older a b ≡ true →
    age_among floats a float ≤ age_among floats b float
among_less [] a b float h = omega arith
among_less (x ∷ xs) [] b float h = omega arith
among_less (x ∷ xs) (y ∷ ys) [] float h = absurd cc
among_less (x ∷ xs) (y ∷ ys) (z ∷ zs) float h =
    let t = both_of (nat_le y z) (are_no_older ys zs) h in
    if_less (is_same_float x float) y (age_among xs ys float) z (age_among xs zs float) (leb-true y z t.0)
    (among_less xs ys zs float t.1)

module _ (doc : Document) (k : PageKey) (a b : List ℕ) (younger : are_no_older a b ≡ true) where
  age_less : (float : ℕ × ℕ) → age_in doc (with_ages k a) float ≤ age_in doc (with_ages k b) float
  age_less float = if_less (is_called doc k.place float) _ 0 _ 0
      (among_less (floats_between doc.style k.placed (called doc.blocks doc.style k.place)) a b float younger)
      (omega arith)

  turn_more : (m : PageMove) → may_turn doc (with_ages k b) m ≡ true → may_turn doc (with_ages k a) m ≡ true
  turn_more m h = all_of (λ (float : ℕ × ℕ). nat_lt
      (age_in doc (with_ages k a) float + turns doc.style (with_ages k a))
      (length (distance_table doc.style float.0))) (waiting_behind doc (with_ages k a) m)
      (λ float among.
      let old : age_in doc (with_ages k b) float + turns doc.style (with_ages k b) < length
      (distance_table doc.style float.0) =
      less_true _ _ (all_at (λ (x : ℕ × ℕ). nat_lt
      (age_in doc (with_ages k b) x + turns doc.style (with_ages k b))
      (length (distance_table doc.style x.0))) (waiting_behind doc (with_ages k b) m) float h among) in
      let le : age_in doc (with_ages k a) float ≤ age_in doc (with_ages k b) float = age_less float in
      less_of _ _ (smaller _ _ (turns doc.style (with_ages k b)) _ le old))
    where
      smaller : (x y t n : ℕ) → x ≤ y → y + t < n → x + t < n
      smaller x y t n h k = omega arith

  next_younger : (m : PageMove) (floats : List (ℕ × ℕ)) →
      are_no_older (map (λ (float : ℕ × ℕ). age_in doc (with_ages k a) float
      + turns doc.style (with_ages k a)) floats)
      (map (λ (float : ℕ × ℕ). age_in doc (with_ages k b) float + turns doc.style (with_ages k b)) floats)
      ≡ true
  next_younger m [] = refl
  next_younger m (x ∷ xs) = both (nat_le (age_in doc (with_ages k a) x + turns doc.style (with_ages k a))
      (age_in doc (with_ages k b) x + turns doc.style (with_ages k b))) _
      (le-leb _ _ (more _ _ (turns doc.style (with_ages k a)) (age_less x))) (next_younger m xs)
    where
      more : (x y t : ℕ) → x ≤ y → x + t ≤ y + t
      more x y t h = omega arith

-- ---- costs

pub record Tables (doc : Document) : Type 0 where
  pub some : (slot : ℕ) → slot < length (float_numbers doc.style) → 0 < length (distance_table doc.style slot)
  pub rises : (slot i j : ℕ) → i ≤ j → j < length (distance_table doc.style slot) →
      slice_index (distance_table doc.style slot) i ≤ slice_index (distance_table doc.style slot) j

among_young : (doc : Document) (ages : List ℕ) (floats : List (ℕ × ℕ)) (float : ℕ × ℕ) →
    are_young doc ages floats ≡ true → 0 < length (distance_table doc.style float.0) →
    age_among floats ages float < length (distance_table doc.style float.0)
among_young doc [] [] float y h = h
among_young doc [] (x ∷ xs) float y h = absurd cc
among_young doc (a ∷ ages) [] float y h = absurd cc
among_young doc (a ∷ ages) (x ∷ xs) float y h =
    let t = both_of (nat_lt a (length (distance_table doc.style x.0))) (are_young doc ages xs) y in
    choose (is_same_float x float) a (age_among xs ages float) (length (distance_table doc.style float.0))
    (λ s. subst (λ (z : ℕ × ℕ). a < length (distance_table doc.style z.0)) (same_float x float s)
    (less_true _ _ t.0))
    (among_young doc ages xs float t.1 h)
  where
    choose : (b : Bool) (x y n : ℕ) → (b ≡ true → x < n) → y < n → (if b then x else y) < n
    choose true x y n p q = p refl
    choose false x y n p q = q

age_young : (doc : Document) → Tables doc → (u : State) (float : ℕ × ℕ) →
    are_young doc u.ages (waiting_in doc u) ≡ true → float.0 < length (float_numbers doc.style) →
    age_in doc u float < length (distance_table doc.style float.0)
age_young doc tables u float y h =
    choose (is_called doc u.place float) (age_among (waiting_in doc u) u.ages float)
    (length (distance_table doc.style float.0))
    (among_young doc u.ages (waiting_in doc u) float y (tables.some float.0 h)) (tables.some float.0 h)
  where
    choose : (b : Bool) (x n : ℕ) → x < n → 0 < n → (if b then x else 0) < n
    choose true x n p q = p
    choose false x n p q = q

sum_less : (f g : ℕ × ℕ → ℕ) (xs : List (ℕ × ℕ)) → ((x : ℕ × ℕ) → Among x xs → f x ≤ g x) →
    whole_sum_by (λ (x : ℕ × ℕ). pos (f x)) xs ≤ℤ whole_sum_by (λ (x : ℕ × ℕ). pos (g x)) xs
sum_less f g [] h = omega (arith, ints)
sum_less f g (x ∷ xs) h =
    let rest : whole_sum_by (λ (x : ℕ × ℕ). pos (f x)) xs ≤ℤ whole_sum_by (λ (x : ℕ × ℕ). pos (g x)) xs =
    sum_less f g xs (λ y m. h y (inr m)) in
    let here : f x ≤ g x = h x (inl refl) in
    omega (arith, ints)

cost_less : (it : ColumnContext) (column : ℕ) (fitness : Option ℕ) (f g : ℕ × ℕ → ℕ) (floats : List (ℕ × ℕ)) →
    float_demerits it.document.style f floats ≤ℤ float_demerits it.document.style g floats →
    column_cost it column fitness f floats ≤ℤ column_cost it column fitness g floats
cost_less it column fitness f g floats h =
    add_less (column_demerits it +ℤ pick_demerits it)
    (if column == 1 then run_demerits it.document.style it.run else pos 0)
    (float_demerits it.document.style f floats) (float_demerits it.document.style g floats)
    (fitness_demerits fitness it) h
  where
    add_less : (a b x y c : ℤ) → x ≤ℤ y → (a +ℤ ((b +ℤ x) +ℤ c)) ≤ℤ (a +ℤ ((b +ℤ y) +ℤ c))
    add_less a b x y c h = omega (arith, ints)

module _ (doc : Document) (tables : Tables doc) (k : PageKey) (a b : List ℕ)
    (younger : are_no_older a b ≡ true) (young : are_young doc b (waiting_in doc (with_ages k b)) ≡ true)
  where
    follow_too : (m : PageMove) (x : State) (c : ℤ) → Follow doc (with_ages k b) m x c →
        FollowsToo doc (with_ages k a) m x c
    follow_too m x c f = record {
      to = next_state doc (with_ages k a) m;
      cost = column_cost (context_in doc (with_ages k a) m) k.column k.fitness (age_in doc (with_ages k a))
          (added doc k.placed m);
      follow = record {
        starts = f.starts;
        stands = f.stands;
        turns = turn_more doc k a b younger m f.turns;
        pays = refl;
        leads = refl;
      };
      cheap = subst (λ (z : ℤ). column_cost (context_in doc (with_ages k a) m) k.column k.fitness
          (age_in doc (with_ages k a)) (added doc k.placed m) ≤ℤ z) (sym f.pays)
          (cost_less (context_in doc (with_ages k a) m) k.column k.fitness (age_in doc (with_ages k a))
          (age_in doc (with_ages k b)) (added doc k.placed m)
          (sum_less (λ (x : ℕ × ℕ). slice_index (distance_table doc.style x.0) (age_in doc (with_ages k a) x))
          (λ (x : ℕ × ℕ). slice_index (distance_table doc.style x.0) (age_in doc (with_ages k b) x))
          (added doc k.placed m)
          (λ float among. let r : IsBetween doc.style k.placed (placed_after doc.style k.placed m) float =
          between_at doc.style k.placed (placed_after doc.style k.placed m) float among in
          tables.rises float.0 (age_in doc (with_ages k a) float) (age_in doc (with_ages k b) float)
          (age_less doc k a b younger float) (age_young doc tables (with_ages k b) float young r.slot))));
      no_worse = subst (λ (z : State). is_no_worse (next_state doc (with_ages k a) m) z ≡ true) (sym f.leads)
          (both (is_same_key (key (next_state doc (with_ages k a) m)) (key (next_state doc (with_ages k b) m)))
          _ (key_refl (key (next_state doc (with_ages k a) m)))
          (next_younger doc k a b younger m (waiting_behind doc (with_ages k b) m)));
    }

-- the law of simulation
pub simulates : (doc : Document) → Tables doc → (u v : State) (m : PageMove) (x : State) (c : ℤ) →
    IsState doc v → is_no_worse u v ≡ true → Follow doc v m x c → FollowsToo doc u m x c
simulates doc tables u v m x c own p f =
    let t = both_of (is_same_key (key u) (key v)) (are_no_older u.ages v.ages) p in
    let same : key v ≡ key u = sym (key_same (key u) (key v) t.0) in
    let back : with_ages (key v) u.ages ≡ u = ap (λ (k : PageKey). with_ages k u.ages) same in
    subst (λ (z : State). FollowsToo doc z m x c) back
    (follow_too doc tables (key v) u.ages v.ages t.1 own.young m x c f)
