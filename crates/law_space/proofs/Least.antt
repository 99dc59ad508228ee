-- The best picks of a column exist.
use Rattle.std.proofs.Common.{◌≡◌, refl, sym, ap, subst, ◌∙◌, ℕ, zero, suc, ◌+◌, ◌≤◌, ◌<◌, ◌⊎◌, inl, inr, List, [], ◌∷◌, ◌++◌, map, length, Bool, true, false, Option, Some, None, arith}
use Rattle.std.specs.Prelude.{◌&&◌, ◌==◌, if◌then◌else◌, reverse, ℤ, pos, ◌+ℤ◌, ◌<ℤ◌, slice_get}
use Rattle.std.specs.List.{flat_map, range_with_len}
use Rattle.std.specs.Option.{option_map_or}
use Rattle.std.specs.Ordering.{is_gt, ordering_reverse, ordering_then, int_cmp, nat_cmp}
use Rattle.std.specs.declared.cmp.Ordering.{Ordering}
use Rattle.std.specs.declared.cmp.Ordering.TheVariants.{Less, Equal, Greater}
use Rattle.std.specs.Cmp.Lexicographic.{slice_cmp}
use Rattle.std.proofs.lemmas.Cmp.{lists_total, nat_cmp_total, by_ranked, int_ranked, tied_itself}
use Rattle.std.proofs.lemmas.Int.{ints}
use Rattle.std.proofs.lemmas.Option.{slice_get_within}
use Rattle.std.specs.Option.{option_map_or}
use Rattle.pg_list.specs.declared.blocks.Block.{Block}
use Rattle.pg_list.specs.declared.blocks.Block.TheVariants.{One, Choice}
use Rattle.pg_list.specs.declared.variants.Variant.{Variant}
use Rattle.pg_plan.specs.declared.pages.PageMove.{PageMove}
use Rattle.pg_plan.specs.Order.{column_cmp, picks_cmp, place_cmp, counts_cmp}
use Rattle.pg_plan.specs.declared.states.State.{State}
use Rattle.pg_list.specs.Flat.{picked_variants, blocks_at, fronts}
use Rattle.pg_rules.specs.ColumnRules.{does_fit, is_well_formed, is_tolerable, passes_breaks, has_room, keeps_note_limits, keeps_looseness, column_variants}
use Rattle.pg_rules.specs.Cost.{column_cost, fitness_demerits, float_demerits, run_demerits, differs}
use Rattle.pg_rules.specs.Follow.{Follow, KeepsColumnRules, context_in, next_state, age_in}
use Rattle.pg_rules.specs.History.{column_fitness}
use Rattle.pg_rules.specs.Legal.{added}
use Rattle.pg_plan.specs.declared.states.PageKey.{PageKey}
use Rattle.pg_rules.specs.NoWorse.{is_no_worse, is_same_key, key, are_no_older}
use Rattle.pg_rules.specs.Room.{Document, ColumnContext, is_text, flat_items_of, size_of}
use Rattle.pg_table.specs.Space.{Undercuts}
use Rattle.pg_table.proofs.Runs.{undercuts_chain}
use Rattle.pg_table.specs.Narrower.{Instead, IsNarrower}
use Rattle.law_places.proofs.Among.{Among, among_left, among_right}
use Rattle.law_columns.proofs.Order.{columns_total, place_total}
use Rattle.law_columns.proofs.Simulation.{key_same, with_ages}
use Rattle.pg_rules.specs.BestPicks.{IsLeast, keeps_text, text_cost, with_picks}
use Rattle.law_space.specs.PageSpace.{FollowBest, wide_meaning}
use Rattle.pg_lemmas.proofs.Bools.{both_of, both, by_bool}
use Rattle.std.proofs.lemmas.Bool.{eqb-true}
use Rattle.pg_lemmas.proofs.Numbers.{eq_refl}
use Rattle.pg_lemmas.proofs.Orders.{not_gt_back}
use Rattle.pg_list.proofs.Places.{picked_few}
use Rattle.pg_plan.proofs.OrderLaws.{picks_equal}

-- ---- every list of picks that names variants

abbrev pub pick_lists : List Block → List (List ℕ)
pick_lists [] = [] ∷ []
pick_lists (One item ∷ blocks) = pick_lists blocks
pick_lists (Choice variants ∷ blocks) =
    [] ∷ flat_map (λ (pick : ℕ). map (λ (picks : List ℕ). pick ∷ picks) (pick_lists blocks))
    (range_with_len 0 (length variants))

among_map : {X Y : Type 0} (f : X → Y) (x : X) (xs : List X) → Among x xs → Among (f x) (map f xs)
among_map f x [] a = absurd a
among_map f x (y ∷ ys) (inl e) = inl (ap f e)
among_map f x (y ∷ ys) (inr a) = inr (among_map f x ys a)

among_range : {Y : Type 0} (f : ℕ → List Y) (a d n : ℕ) (y : Y) → d < n → Among y (f (a + d)) →
    Among y (flat_map f (range_with_len a n))
among_range f a d zero y h m = absurd (omega arith)
among_range f a zero (suc n) y h m = let e : a + 0 ≡ a = omega arith in
    among_left y (f a) (flat_map f (range_with_len (a + 1) n)) (subst (λ (z : ℕ). Among y (f z)) e m)
among_range f a (suc d) (suc n) y h m = let e : a + suc d ≡ a + 1 + d = omega arith in
    among_right y (f a) (flat_map f (range_with_len (a + 1) n))
    (among_range f (a + 1) d n y (omega arith) (subst (λ (z : ℕ). Among y (f z)) e m))

pub picks_among : (blocks : List Block) (picks : List ℕ) →
    length (picked_variants blocks picks) ≡ length picks → Among picks (pick_lists blocks)
picks_among [] [] h = inl refl
picks_among [] (p ∷ ps) h = absurd (omega arith)
picks_among (One item ∷ blocks) picks h = picks_among blocks picks h
picks_among (Choice variants ∷ blocks) [] h = inl refl
picks_among (Choice variants ∷ blocks) (pick ∷ picks) h =
    inr (among_range (λ (p : ℕ). map (λ (ps : List ℕ). p ∷ ps) (pick_lists blocks)) 0 pick (length variants)
    (pick ∷ picks) (named (slice_get variants pick) refl)
    (let e : 0 + pick ≡ pick = omega arith in
    subst (λ (z : ℕ). Among (pick ∷ picks) (map (λ (ps : List ℕ). z ∷ ps) (pick_lists blocks))) (sym e)
    (among_map (λ (ps : List ℕ). pick ∷ ps) picks (pick_lists blocks) (picks_among blocks picks rest))))
  where
    few : length (picked_variants blocks picks) ≤ length picks
    few = picked_few blocks picks

    named : (o : Option Variant) → o ≡ slice_get variants pick → pick < length variants
    named None e = let k : length (picked_variants blocks picks) ≡ suc (length picks) =
        subst (λ (o : Option Variant). length
        (option_map_or (λ (variant : Variant). variant ∷ []) o [] ++ picked_variants blocks picks)
        ≡ suc (length picks)) (sym e) h in absurd (omega (arith, few))
    named (Some v) e = slice_get_within variants pick v (sym e)

    rest : length (picked_variants blocks picks) ≡ length picks
    rest = by (slice_get variants pick) refl
      where
        by : (o : Option Variant) → o ≡ slice_get variants pick →
            length (picked_variants blocks picks) ≡ length picks
        by None e = let k : length (picked_variants blocks picks) ≡ suc (length picks) =
            subst (λ (o : Option Variant). length
            (option_map_or (λ (variant : Variant). variant ∷ []) o [] ++ picked_variants blocks picks)
            ≡ suc (length picks)) (sym e) h in absurd (omega (arith, few))
        by (Some v) e = let k : suc (length (picked_variants blocks picks)) ≡ suc (length picks) =
            subst (λ (o : Option Variant). length
            (option_map_or (λ (variant : Variant). variant ∷ []) o [] ++ picked_variants blocks picks)
            ≡ suc (length picks)) (sym e) h in omega arith

-- ---- the first of least cost

abbrev pub Under : (List ℕ → ℤ) → List ℕ → List ℕ → Type 0
Under cost a b = Undercuts nat_cmp (cost a) (reverse a) (cost b) (reverse b)

either : (cost : List ℕ → ℤ) (a b : List ℕ) → Under cost a b ⊎ Under cost b a
either cost a b = by_ranked (cost a <ℤ cost b) (cost a ≡ cost b) (cost b <ℤ cost a)
    (int_cmp (cost a) (cost b)) (int_ranked (cost a) (cost b) (int_cmp (cost a) (cost b)) refl)
    (λ _ p. inl (inl p))
    (λ _ p. by_bool (is_gt (slice_cmp nat_cmp (reverse a) (reverse b)))
    (λ t. inr (inr (
      sym p,
      not_gt_back _ _ ((lists_total nat_cmp_total).antisymm (reverse b) (reverse a))
          t,
    ))) (λ f. inl (inr (p, f))))
    (λ _ p. inr (inl p))

under_itself : (cost : List ℕ → ℤ) (a : List ℕ) → Under cost a a
under_itself cost a = inr (refl, ap is_gt (tied_itself (lists_total nat_cmp_total) (reverse a)))

under_chain : (cost : List ℕ → ℤ) (a b c : List ℕ) → Under cost a b → Under cost b c → Under cost a c
under_chain cost a b c p q = undercuts_chain nat_cmp nat_cmp_total (cost a) (cost b) (cost c) (reverse a)
    (reverse b) (reverse c) p q

pub record LeastOf (cost : List ℕ → ℤ) (test : List ℕ → Bool) (x : List ℕ) (xs : List (List ℕ)) : Type 0 where
  pub least : List ℕ
  pub passes : test least ≡ true
  pub under_x : Under cost least x
  pub under : (y : List ℕ) → Among y xs → test y ≡ true → Under cost least y

least_of : (cost : List ℕ → ℤ) (test : List ℕ → Bool) (x : List ℕ) (xs : List (List ℕ)) → test x ≡ true →
    LeastOf cost test x xs
least_of cost test x [] t = record {
  least = x;
  passes = t;
  under_x = under_itself cost x;
  under =
      λ y a p. absurd a;
}
least_of cost test x (y ∷ ys) t =
    by (test y) refl (either cost x y) (least_of cost test x ys t) (λ p. least_of cost test y ys p)
  where
    keep : LeastOf cost test x ys → (test y ≡ true → Under cost x y) → LeastOf cost test x (y ∷ ys)
    keep l u = record { least = l.least; passes = l.passes; under_x = l.under_x; under = each l u }
      where
        each : (l : LeastOf cost test x ys) → (test y ≡ true → Under cost x y) → (z : List ℕ) →
            Among z (y ∷ ys) → test z ≡ true → Under cost l.least z
        each l u z (inl e) p = subst (Under cost l.least) e
            (under_chain cost l.least x y l.under_x (u (subst (λ (k : List ℕ). test k ≡ true) (sym e) p)))
        each l u z (inr a) p = l.under z a p

    change : LeastOf cost test y ys → Under cost y x → LeastOf cost test x (y ∷ ys)
    change l u = record {
      least = l.least;
      passes = l.passes;
      under_x =
          under_chain cost l.least y x l.under_x u;
      under = each l;
    }
      where
        each : (l : LeastOf cost test y ys) (z : List ℕ) → Among z (y ∷ ys) → test z ≡ true →
            Under cost l.least z
        each l z (inl e) p = subst (Under cost l.least) e l.under_x
        each l z (inr a) p = l.under z a p

    by : (b : Bool) → b ≡ test y → Under cost x y ⊎ Under cost y x → LeastOf cost test x ys →
        (test y ≡ true → LeastOf cost test y ys) → LeastOf cost test x (y ∷ ys)
    by false e u l m = keep l (λ p. absurd cc)
    by true e (inl u) l m = keep l (λ p. u)
    by true e (inr u) l m = change (m (sym e)) u

-- ---- a column with the best picks

abbrev pub picking : PageMove → List ℕ → PageMove
picking m picks = record {
  column =
      record {
        from = m.column.from;
        to = m.column.to;
        top = m.column.top;
        bottom = m.column.bottom;
        picks =
            picks;
      };
  run = m.run;
  wide = m.wide;
}

abbrev pub may_pick : ColumnContext → List ℕ → Bool
may_pick it picks = keeps_text (with_picks it picks)
    && (column_fitness (with_picks it picks) == column_fitness it)

fitness_is_among : (it : ColumnContext) (picks : List ℕ) → keeps_text (with_picks it picks) ≡ true →
    Among picks (pick_lists (blocks_at it.document.blocks it.column.from))
fitness_is_among it picks h = picks_among (blocks_at it.document.blocks it.column.from) picks
    (by (size_of (with_picks it picks)) (both_of (does_fit (with_picks it picks)) _ h).0)
  where
    by : (o : Option ℕ) → option_map_or
        (λ (n : ℕ). (fronts (flat_items_of (with_picks it picks)) n == length picks)
        && (length (column_variants (with_picks it picks)) == length picks)) o false ≡ true →
        length (picked_variants (blocks_at it.document.blocks it.column.from) picks) ≡ length picks
    by None e = absurd cc
    by (Some n) e = eqb-true _ _ (both_of (fronts (flat_items_of (with_picks it picks)) n == length picks) _ e).1

module _ (doc : Document) (u : State) (m : PageMove) (v : State) (c : ℤ) (f : Follow doc u m v c) where
  follow_picking : (picks : List ℕ) → keeps_text (with_picks (context_in doc u m) picks) ≡ true →
      Follow doc u (picking m picks) (next_state doc u (picking m picks))
      (column_cost (context_in doc u (picking m picks)) u.column u.fitness (age_in doc u) (added doc u.placed m))
  follow_picking picks h =
      let t1 = both_of (does_fit (with_picks (context_in doc u m) picks)) _ h in
      let t2 = both_of (is_well_formed (with_picks (context_in doc u m) picks)) _ t1.1 in
      let t3 = both_of (is_tolerable (with_picks (context_in doc u m) picks)) _ t2.1 in
      let t4 = both_of (passes_breaks (with_picks (context_in doc u m) picks)) _ t3.1 in
      let t5 = both_of (has_room (with_picks (context_in doc u m) picks)) _ t4.1 in
      let t6 = both_of (keeps_note_limits (with_picks (context_in doc u m) picks))
      (keeps_looseness (with_picks (context_in doc u m) picks)) t5.1 in
      record {
        starts = f.starts;
        stands = record {
          takes_run = f.stands.takes_run;
          wide = f.stands.wide;
          deals = f.stands.deals;
          callouts = f.stands.callouts;
          barriers = f.stands.barriers;
          rules = record {
            fits = t1.0;
            well_formed = t2.0;
            tolerable = t3.0;
            passes = t4.0;
            room =
                t5.0;
            counts = f.stands.rules.counts;
            note_limits = t6.0;
            looseness = t6.1;
          };
        };
        turns = f.turns;
        pays = refl;
        leads = refl;
      }

  own_text : keeps_text (context_in doc u m) ≡ true
  own_text = let r = f.stands.rules in
      both (does_fit (context_in doc u m)) _ f.stands.rules.fits
      (both (is_well_formed (context_in doc u m)) _ f.stands.rules.well_formed
      (both (is_tolerable (context_in doc u m)) _ f.stands.rules.tolerable
      (both (passes_breaks (context_in doc u m)) _ f.stands.rules.passes
      (both (has_room (context_in doc u m)) _ f.stands.rules.room
      (both (keeps_note_limits (context_in doc u m)) (keeps_looseness (context_in doc u m))
      f.stands.rules.note_limits f.stands.rules.looseness)))))

  best : LeastOf (λ (picks : List ℕ). text_cost (with_picks (context_in doc u m) picks))
      (may_pick (context_in doc u m)) m.column.picks (pick_lists (blocks_at doc.blocks m.column.from))
  best = least_of _ (may_pick (context_in doc u m)) m.column.picks
      (pick_lists (blocks_at doc.blocks m.column.from))
      (both (keeps_text (context_in doc u m))
      (column_fitness (context_in doc u m) == column_fitness (context_in doc u m)) own_text
      (eq_refl (column_fitness (context_in doc u m))))

  same_fitness : (picks : List ℕ) → column_fitness (with_picks (context_in doc u m) picks)
      ≡ column_fitness (context_in doc u m) → next_state doc u (picking m picks) ≡ v
  same_fitness picks e = ap (λ (n : ℕ). record (next_state doc u m) {
    fitness =
        if doc.style.version == 1 then None else (if is_text (context_in doc u m) then Some n else u.fitness);
  }) e
      ∙ sym f.leads

  price : (picks : List ℕ) → column_fitness (with_picks (context_in doc u m) picks)
      ≡ column_fitness (context_in doc u m) →
      (column_cost (context_in doc u (picking m picks)) u.column u.fitness (age_in doc u) (added doc u.placed m)
      ≡ text_cost (with_picks (context_in doc u m) picks) +ℤ
      (((if u.column == 1 then run_demerits doc.style m.run else pos 0) +ℤ float_demerits doc.style
      (age_in doc u) (added doc u.placed m)) +ℤ fitness_demerits u.fitness (context_in doc u m)))
  price picks e = ap (λ (n : ℕ). text_cost (with_picks (context_in doc u m) picks) +ℤ
      (((if u.column == 1 then run_demerits doc.style m.run else pos 0) +ℤ float_demerits doc.style
      (age_in doc u) (added doc u.placed m)) +ℤ option_map_or
      (λ (last : ℕ). if is_text (context_in doc u m) && differs last n then pos doc.style.fitness else pos 0)
      u.fitness (pos 0))) e

  then_same : (o p : Ordering) → o ≡ Equal → is_gt p ≡ false → is_gt (ordering_then o p) ≡ false
  then_same Equal p e h = h
  then_same Less p e h = absurd cc
  then_same Greater p e h = absurd cc

  not_after : (picks : List ℕ) → is_gt (picks_cmp picks m.column.picks) ≡ false →
      is_gt (column_cmp (picking m picks) m) ≡ false
  not_after picks h =
      then_same (place_cmp m.column.to m.column.to) _ (tied_itself place_total m.column.to)
      (then_same (place_cmp m.column.from m.column.from) _ (tied_itself place_total m.column.from)
      (then_same (nat_cmp m.run m.run) _ (tied_itself nat_cmp_total m.run)
      (then_same (counts_cmp m.wide m.wide) _ (tied_itself (lists_total nat_cmp_total) m.wide)
      (then_same (counts_cmp m.column.bottom m.column.bottom) _
      (tied_itself (lists_total nat_cmp_total) m.column.bottom)
      (then_same (counts_cmp m.column.top m.column.top) (picks_cmp picks m.column.picks)
      (tied_itself (lists_total nat_cmp_total) m.column.top) h)))))

  pub instead_text : is_text (context_in doc u m) ≡ true → Instead (wide_meaning doc) (FollowBest doc) u m v c
  instead_text t =
      let b : LeastOf (λ (picks : List ℕ). text_cost (with_picks (context_in doc u m) picks))
      (may_pick (context_in doc u m)) m.column.picks (pick_lists (blocks_at doc.blocks m.column.from)) =
      best in
      let p = both_of (keeps_text (with_picks (context_in doc u m) b.least))
      (column_fitness (with_picks (context_in doc u m) b.least) == column_fitness (context_in doc u m))
      b.passes in
      let e : column_fitness (with_picks (context_in doc u m) b.least) ≡ column_fitness (context_in doc u m) =
      eqb-true _ _ p.1 in
      record {
        move = picking m b.least;
        cost = column_cost (context_in doc u (picking m b.least)) u.column u.fitness (age_in doc u)
            (added doc u.placed m);
        follow = record {
          follow = subst (λ (x : State). Follow doc u (picking m b.least) x
              (column_cost (context_in doc u (picking m b.least)) u.column u.fitness (age_in doc u)
              (added doc u.placed m))) (same_fitness b.least e) (follow_picking b.least p.0);
          least = record {
            least = λ picks _ k n. b.under picks (fitness_is_among (context_in doc u m) picks k)
                (both (keeps_text (with_picks (context_in doc u m) picks)) _ k
                (subst (λ (z : ℕ). (z == column_fitness (context_in doc u m)) ≡ true) (sym (n ∙ e))
                (eq_refl (column_fitness (context_in doc u m)))));
          };
        };
        undercuts = cheaper (text_cost (with_picks (context_in doc u m) b.least))
            (text_cost (context_in doc u m)) _ _ c b.least b.under_x (price b.least e)
            (f.pays ∙ price m.column.picks refl);
      }
    where
      cheaper : (a b r x y : ℤ) (picks : List ℕ) →
          Undercuts nat_cmp a (reverse picks) b (reverse m.column.picks) → x ≡ a +ℤ r → y ≡ b +ℤ r →
          (x <ℤ y) ⊎ ((x ≡ y) × (is_gt (column_cmp (picking m picks) m) ≡ false))
      cheaper a b r x y picks (inl h) p q = inl (omega (arith, ints))
      cheaper a b r x y picks (inr h) p q = inr (let k : a ≡ b = h.0 in cc, not_after picks h.1)

  pub instead_other : is_text (context_in doc u m) ≡ false → Instead (wide_meaning doc) (FollowBest doc) u m v c
  instead_other n = record {
    move = m;
    cost = c;
    follow = record { follow = f; least = record { least = λ picks t k e. absurd cc } };
    undercuts = inr (refl, ap is_gt (tied_itself columns_total m));
  }

-- the columns with best picks can do no worse
pub best_narrower : (doc : Document) → IsNarrower (wide_meaning doc) (FollowBest doc)
best_narrower doc = record {
  inside = λ u m v c f. f.follow;
  instead = λ u m v c own f. by_bool (is_text (context_in doc u m)) (λ t. instead_text doc u m v c f t)
      (λ n. instead_other doc u m v c f n);
  same = λ u v m x y c d ou ov p f g. record { follow = g; least = same_least u v m p f.least };
}
  where
    same_least : (u v : State) (m : PageMove) → is_no_worse u v ≡ true → IsLeast (context_in doc v m) →
        IsLeast (context_in doc u m)
    same_least u v m p l =
        let t = both_of (is_same_key (key u) (key v)) (are_no_older u.ages v.ages) p in
        subst (λ (k : PageKey). IsLeast (context_in doc (with_ages k []) m))
        (sym (key_same (key u) (key v) t.0)) l

-- of two columns with best picks that differ in their picks alone, and have one fitness, the picks are the same
pub best_unique : (doc : Document) (u : State) (m : PageMove) (v x : State) (c d : ℤ) (picks : List ℕ) →
    is_text (context_in doc u m) ≡ true → FollowBest doc u m v c → FollowBest doc u (picking m picks) x d →
    column_fitness (context_in doc u (picking m picks)) ≡ column_fitness (context_in doc u m) →
    m.column.picks ≡ picks
best_unique doc u m v x c d picks text a b fitness =
    both_ways (text_cost (context_in doc u m)) (text_cost (context_in doc u (picking m picks)))
    (a.least.least picks text (kept (context_in doc u (picking m picks)) b.follow.stands.rules) fitness)
    (b.least.least m.column.picks text (kept (context_in doc u m) a.follow.stands.rules) (sym fitness))
  where
    kept : (it : ColumnContext) → KeepsColumnRules it → keeps_text it ≡ true
    kept it k = both (does_fit it) _ k.fits
        (both (is_well_formed it) _ k.well_formed
        (both (is_tolerable it) _ k.tolerable
        (both (passes_breaks it) _ k.passes
        (both (has_room it) _ k.room (both (keeps_note_limits it) (keeps_looseness it) k.note_limits
        k.looseness)))))

    tie : (o p : Ordering) → o ≡ ordering_reverse p → is_gt o ≡ false → is_gt p ≡ false → o ≡ Equal
    tie Less Less e g h = absurd cc
    tie Less Equal e g h = absurd cc
    tie Less Greater e g h = absurd cc
    tie Equal p e g h = refl
    tie Greater p e g h = absurd cc

    both_ways : (k l : ℤ) → (k <ℤ l) ⊎ ((k ≡ l) × (is_gt (picks_cmp m.column.picks picks) ≡ false)) →
        (l <ℤ k) ⊎ ((l ≡ k) × (is_gt (picks_cmp picks m.column.picks) ≡ false)) → m.column.picks ≡ picks
    both_ways k l (inl p) (inl q) = absurd (omega (arith, ints))
    both_ways k l (inl p) (inr q) = absurd (let e : l ≡ k = q.0 in omega (arith, ints))
    both_ways k l (inr p) (inl q) = absurd (let e : k ≡ l = p.0 in omega (arith, ints))
    both_ways k l (inr p) (inr q) =
        picks_equal m.column.picks picks
        (tie (picks_cmp m.column.picks picks) (picks_cmp picks m.column.picks)
        ((lists_total nat_cmp_total).antisymm (reverse m.column.picks) (reverse picks)) p.1 q.1)
