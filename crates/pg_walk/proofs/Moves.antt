-- The steps by all picks are the moves of a state.
use Rattle.std.proofs.Common.{◌≡◌, refl, sym, ap, ◌∙◌, subst, ℕ, zero, suc, ◌+◌, ◌≤◌, ◌<◌, inl, inr, List, [], ◌∷◌, ◌++◌, length, arith, Bool, true, false, Option, Some, None, ℤ, pos}
use Rattle.std.specs.Prelude.{◌≢◌, ◌⊎◌, if◌then◌else◌, option_map, get_or, slice_get, take, drop, ◌-◌, AllPairs}
use Rattle.std.specs.Option.{option_map_or}
use Rattle.std.proofs.lemmas.List.{append_assoc, take_all}
use Rattle.std.proofs.lemmas.Option.{same_Some}
use Rattle.pg_list.specs.declared.variants.Variant.{Variant}
use Rattle.pg_column.specs.Judged.{is_loose_enough}
use Rattle.pg_column.specs.Passed.{Passed}
use Rattle.pg_lemmas.proofs.Bools.{if_true}
use Rattle.pg_rules.specs.Room.{Document}
use Rattle.pg_hops.specs.View.{view}
use Rattle.pg_hops.specs.declared.state.State.{State}
use Rattle.pg_table.specs.Space.{AreMoves}
use Rattle.pg_table.specs.declared.step.Step.{Step}
use Rattle.law_walk.specs.Best.{IsAmong}
use Rattle.law_walk.specs.Walk.{past_stretch, picked_front, picked_stretch, variants_at}
use Rattle.law_walk.proofs.BestLaws.{among_contains, contains_among}
use Rattle.pg_walk.specs.WalkLawful.{next_leads, state_same}
use Rattle.pg_walk.specs.Meaning.{Leads, next_state, space_meaning, state_behind, step_by, steps_by, steps_from}

pub among_right : {X : Type 0} (xs ys : List X) (x : X) → IsAmong x ys → IsAmong x (xs ++ ys)
among_right [] ys x a = a
among_right (y ∷ xs) ys x a = inr (among_right xs ys x a)

pub among_left : {X : Type 0} (xs ys : List X) (x : X) → IsAmong x xs → IsAmong x (xs ++ ys)
among_left [] ys x a = absurd a
among_left (y ∷ xs) ys x (inl p) = inl p
among_left (y ∷ xs) ys x (inr a) = inr (among_left xs ys x a)

pub among_cases : {X : Type 0} (xs ys : List X) (x : X) → IsAmong x (xs ++ ys) → IsAmong x xs ⊎ IsAmong x ys
among_cases [] ys x a = inr a
among_cases (y ∷ xs) ys x (inl p) = inl (inl p)
among_cases (y ∷ xs) ys x (inr a) = elim (among_cases xs ys x a) [ inl p ↦ inl (inr p) | inr q ↦ inr q ]

module _ (doc : Document) (top : ℤ) (u : State) where
  -- the state at the next front with what was passed
  abbrev at_front : ℕ → Passed → State
  at_front k p = next_state doc u k (record { block = picked_front doc.blocks u.block; passed = p })

  record IsStep (v : Variant) (k : ℕ) (s : Step State ℕ) : Type 0 where
    loose : is_loose_enough doc.style v ≡ true
    passed : Passed
    past : past_stretch doc top (view u.passed) (picked_stretch doc.blocks u.block k) ≡ Some passed
    is : s ≡ step_by k v (at_front k passed)

  step_is : (v : Variant) (k : ℕ) (s : Step State ℕ) → IsAmong s (steps_by doc top u k v) → IsStep v k s
  step_is v k s a = by (is_loose_enough doc.style v) refl
      (past_stretch doc top (view u.passed) (picked_stretch doc.blocks u.block k)) refl a
    where
      by : (b : Bool) → is_loose_enough doc.style v ≡ b → (o : Option Passed) →
          past_stretch doc top (view u.passed) (picked_stretch doc.blocks u.block k) ≡ o →
          IsAmong s (if b then option_map_or (λ (to : State). step_by k v to ∷ []) (option_map (at_front k) o) [] else
          []) →
          IsStep v k s
      by false e o f m = absurd m
      by true e None f m = absurd m
      by true e (Some p) f (inl q) = record { loose = e; passed = p; past = f; is = sym q }
      by true e (Some p) f (inr m) = absurd m

  is_step : (v : Variant) (k : ℕ) (p : Passed) → is_loose_enough doc.style v ≡ true →
      past_stretch doc top (view u.passed) (picked_stretch doc.blocks u.block k) ≡ Some p →
      IsAmong (step_by k v (at_front k p)) (steps_by doc top u k v)
  is_step v k p e f = subst (IsAmong (step_by k v (at_front k p)))
      (sym (if_true (is_loose_enough doc.style v) (option_map_or (λ (to : State). step_by k v to ∷ [])
      (state_behind doc top u k) []) [] e
      ∙ ap (λ (o : Option Passed). option_map_or (λ (to : State). step_by k v to ∷ []) (option_map (at_front k) o) [])
      f))
      (inl refl)

  record HasPick (k : ℕ) (vs : List Variant) (s : Step State ℕ) : Type 0 where
    offset : ℕ
    variant : Variant
    there : slice_get vs offset ≡ Some variant
    step : IsStep variant (k + offset) s

  has_pick : (k : ℕ) (vs : List Variant) (s : Step State ℕ) → IsAmong s (steps_from doc top u k vs) → HasPick k vs s
  has_pick k [] s a = absurd a
  has_pick k (v ∷ vs) s a = elim (among_cases (steps_by doc top u k v) (steps_from doc top u (k + 1) vs) s a) [
    | inl p ↦ record {
      offset = 0;
      variant = v;
      there = refl;
      step = subst (λ (n : ℕ). IsStep v n s) (omega arith) (step_is v k s p);
    }
    | inr q ↦ later (has_pick (k + 1) vs s q)
  ]
    where
      later : HasPick (k + 1) vs s → HasPick k (v ∷ vs) s
      later r = record {
        offset = suc r.offset;
        variant = r.variant;
        there = r.there;
        step = subst (λ (n : ℕ). IsStep r.variant n s) (omega arith) r.step;
      }

  abbrev Passes : ℕ → Passed → Type 0
  Passes k p = past_stretch doc top (view u.passed) (picked_stretch doc.blocks u.block k) ≡ Some p

  listed : (k : ℕ) (vs : List Variant) (n : ℕ) (v : Variant) (p : Passed) → slice_get vs n ≡ Some v →
      is_loose_enough doc.style v ≡ true → Passes (k + n) p →
      IsAmong (step_by (k + n) v (at_front (k + n) p)) (steps_from doc top u k vs)
  listed k [] n v p t e f = absurd cc
  listed k (w ∷ vs) zero v p t e f =
      let same : w ≡ v = same_Some w v t in
      let z : k + 0 ≡ k = omega arith in
      among_left (steps_by doc top u k w) (steps_from doc top u (k + 1) vs) (step_by (k + 0) v (at_front (k + 0) p))
      (subst (λ (m : ℕ). IsAmong (step_by m v (at_front m p)) (steps_by doc top u k w)) (sym z)
      (subst (λ (x : Variant). IsAmong (step_by k v (at_front k p)) (steps_by doc top u k x)) (sym same)
      (is_step v k p e (subst (λ (m : ℕ). Passes m p) z f))))
  listed k (w ∷ vs) (suc n) v p t e f =
      let z : (k + 1) + n ≡ k + suc n = omega arith in
      among_right (steps_by doc top u k w) (steps_from doc top u (k + 1) vs)
      (step_by (k + suc n) v (at_front (k + suc n) p))
      (subst (λ (m : ℕ). IsAmong (step_by m v (at_front m p)) (steps_from doc top u (k + 1) vs)) z
      (listed (k + 1) vs n v p t e (subst (λ (m : ℕ). Passes m p) (sym z) f)))

  -- ---- each once

  later_picks : (k : ℕ) (vs : List Variant) (s : Step State ℕ) → IsAmong s (steps_from doc top u k vs) → k ≤ s.by
  later_picks k vs s a = let r = has_pick k vs s a in
      let b = ap (λ (x : Step State ℕ). x.by) r.step.is in omega (arith, b)

  abbrev Apart : List (Step State ℕ) → Type 0
  Apart = AllPairs (λ s t. s.by ≢ t.by)

  get_among : {X : Type 0} (xs : List X) (i : ℕ) (d : X) → i < length xs → IsAmong (get_or xs i d) xs
  get_among [] i d h = absurd (omega (arith, h))
  get_among (x ∷ xs) zero d h = inl refl
  get_among (x ∷ xs) (suc i) d h = inr (get_among xs i d (omega (arith, h)))

  once : (k : ℕ) (vs : List Variant) → Apart (steps_from doc top u k vs)
  once k [] = λ i j d lt within. absurd (omega (arith, within))
  once k (v ∷ vs) = by (is_loose_enough doc.style v) (state_behind doc top u k) (once (k + 1) vs)
    where
      by : (b : Bool) (o : Option State) → Apart (steps_from doc top u (k + 1) vs) →
          Apart ((if b then option_map_or (λ (to : State). step_by k v to ∷ []) o [] else [])
          ++ steps_from doc top u (k + 1) vs)
      by false o r = r
      by true None r = r
      by true (Some to) r = cons
        where
          cons : Apart (step_by k v to ∷ steps_from doc top u (k + 1) vs)
          cons i zero d lt within = absurd (omega (arith, lt))
          cons zero (suc j) d lt within = λ e.
              let later = later_picks (k + 1) vs (get_or (steps_from doc top u (k + 1) vs) j d)
              (get_among (steps_from doc top u (k + 1) vs) j d (omega (arith, within))) in
              omega (arith, later, e)
          cons (suc i) (suc j) d lt within = r i j d (omega (arith, lt)) (omega (arith, within))

  -- ---- pick by pick

  -- the steps up to and including those of the first of the picks that are left
  pub steps_more : (k : ℕ) (v : Variant) (left : List Variant) (old new all : List (Step State ℕ)) →
      1 ≤ length left → v ≡ get_or left 0 v → new ≡ old ++ steps_by doc top u k v →
      old ++ steps_from doc top u k left ≡ all →
      new ++ steps_from doc top u (k + 1) (take (length left - 1) (drop 1 left)) ≡ all
  steps_more k v [] old new all h is added e = absurd (omega (arith, h))
  steps_more k v (w ∷ ws) old new all h is added e =
      let rest : take (length (w ∷ ws) - 1) ws ≡ ws = take_all (length (w ∷ ws) - 1) ws (omega arith) in
      ap (λ (vs : List Variant). new ++ steps_from doc top u (k + 1) vs) rest
      ∙ (ap (λ (ss : List (Step State ℕ)). ss ++ steps_from doc top u (k + 1) ws) added
      ∙ (ap (λ (x : Variant). (old ++ steps_by doc top u k x) ++ steps_from doc top u (k + 1) ws) is
      ∙ (append_assoc old (steps_by doc top u k w) (steps_from doc top u (k + 1) ws) ∙ e)))

  -- ---- moves

  abbrev all_steps : List (Step State ℕ)
  all_steps = steps_from doc top u 0 (variants_at doc.blocks u.block)

  sound : (s : Step State ℕ) → IsAmong s all_steps → Leads doc top u s.by s.to s.cost
  sound s a =
      let r = has_pick 0 (variants_at doc.blocks u.block) s a in
      let z : r.offset ≡ 0 + r.offset = omega arith in
      let there : slice_get (variants_at doc.blocks u.block) (0 + r.offset) ≡ Some r.variant =
      subst (λ (n : ℕ). slice_get (variants_at doc.blocks u.block) n ≡ Some r.variant) z r.there in
      subst (λ (x : Step State ℕ). Leads doc top u x.by x.to x.cost) (sym r.step.is)
      (next_leads doc top u (0 + r.offset) (record { block = picked_front doc.blocks u.block; passed = r.step.passed })
      (pos r.variant.demerits) (record {
        variant = r.variant;
        there = there;
        loose = r.step.loose;
        past = r.step.past;
        leads = refl;
        pays = refl;
      }))

  step_same : (k k' : ℕ) (to to' : State) (c c' : ℤ) → k ≡ k' → to ≡ to' → c ≡ c' →
      ◌≡◌ {A = Step State ℕ} (record { to = to; by = k; cost = c }) (record { to = to'; by = k'; cost = c' })
  step_same k k' to to' c c' p q r = rw (p, q, r) refl

  whole : (m : ℕ) (v : State) (c : ℤ) → Leads doc top u m v c →
      IsAmong (record { to = v; by = m; cost = c }) all_steps
  whole m v c f =
      let z : 0 + m ≡ m = omega arith in
      let at = listed 0 (variants_at doc.blocks u.block) m f.picks.variant (view v.passed) f.picks.there f.picks.loose
      (subst (λ (n : ℕ). Passes n (view v.passed)) (sym z) f.picks.past) in
      let to : at_front m (view v.passed) ≡ v = state_same _ _ _ _ _ _ _ _ _ _ _ _ _ _ _ _ (sym f.picks.leads) refl refl
      refl (sym f.topskip) (sym f.maxdepth) (sym f.sums) (sym f.notes) in
      subst (λ (s : Step State ℕ). IsAmong s all_steps)
      (ap (λ (n : ℕ). step_by n f.picks.variant (at_front n (view v.passed))) z
      ∙ step_same m m (at_front m (view v.passed)) v (pos f.picks.variant.demerits) c refl to (sym f.picks.pays)) at

  pub are_moves : (start : State) → AreMoves (space_meaning doc top start) u all_steps
  are_moves start = record {
    sound = λ s c. sound s (contains_among all_steps s c);
    whole = λ m v c f. among_contains all_steps (record { to = v; by = m; cost = c }) (whole m v c f);
    once = once 0 (variants_at doc.blocks u.block);
  }
