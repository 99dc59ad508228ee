-- Steps that are added to others, but for some that are spared.
use Rattle.std.proofs.Common.{◌≡◌, refl, sym, ap, subst, ◌∙◌, ◌⊎◌, inl, inr, Bool, true, List, [], ◌∷◌, ◌++◌, append_assoc, ℤ}
use Rattle.std.specs.Prelude.{Contains, ◌≢◌}
use Rattle.std.proofs.lemmas.List.{append-nil}
use Rattle.law_places.proofs.Among.{Among}
use Rattle.law_places.proofs.Members.{among_contains, contains_among}
use Rattle.law_places.proofs.Pairs.{Pairs, all_pairs, pairs_all}
use Rattle.pg_table.specs.Space.{AreMoves, AreWanted, Meaning}
use Rattle.pg_table.specs.declared.step.Step.{Step}
use Rattle.pg_moves.specs.Thinned.{Adds, Thins}

module _ {S M : Type 0} (spared : S → ℤ → Bool) where
  -- ---- all but some

  pub thins_all : (all : List (Step S M)) → Thins spared all all
  thins_all [] = refl
  thins_all (step ∷ all) = inl (all, (refl, thins_all all))

  pub thins_append : (first later fs ls : List (Step S M)) → Thins spared first fs → Thins spared later ls →
      Thins spared (first ++ later) (fs ++ ls)
  thins_append first later [] ls t u =
      subst (λ (xs : List (Step S M)). Thins spared (xs ++ later) ls) (sym t) u
  thins_append first later (step ∷ fs) ls (inl (more, (e, t))) u = inl (
    more ++ later,
    (ap (λ (xs : List (Step S M)). xs ++ later) e, thins_append more later fs ls t u),
  )
  thins_append first later (step ∷ fs) ls (inr (h, t)) u = inr (h, thins_append first later fs ls t u)

  among_thinned : (kept all : List (Step S M)) → Thins spared kept all → (x : Step S M) → Among x kept → Among x all
  among_thinned kept [] t x a = subst (Among x) t a
  among_thinned kept (step ∷ all) (inl (more, (e, t))) x a = by (among_thinned more all t x) (subst (Among x) e a)
    where
      by : (Among x more → Among x all) → (step ≡ x) ⊎ Among x more → (step ≡ x) ⊎ Among x all
      by f (inl p) = inl p
      by f (inr p) = inr (f p)
  among_thinned kept (step ∷ all) (inr (h, t)) x a = inr (among_thinned kept all t x a)

  kept_or_spared : (kept all : List (Step S M)) → Thins spared kept all → (x : Step S M) → Among x all →
      Among x kept ⊎ (spared x.to x.cost ≡ true)
  kept_or_spared kept [] t x a = absurd a
  kept_or_spared kept (step ∷ all) (inl (more, (e, t))) x (inl p) = inl (subst (Among x) (sym e) (inl p))
  kept_or_spared kept (step ∷ all) (inl (more, (e, t))) x (inr a) = by (kept_or_spared more all t x a)
    where
      by : Among x more ⊎ (spared x.to x.cost ≡ true) → Among x kept ⊎ (spared x.to x.cost ≡ true)
      by (inl b) = inl (subst (Among x) (sym e) (inr b))
      by (inr b) = inr b
  kept_or_spared kept (step ∷ all) (inr (h, t)) x (inl p) =
      inr (subst (λ (z : Step S M). spared z.to z.cost ≡ true) p h)
  kept_or_spared kept (step ∷ all) (inr (h, t)) x (inr a) = kept_or_spared kept all t x a

  pairs_thinned : (R : Step S M → Step S M → Type 0) (kept all : List (Step S M)) → Thins spared kept all →
      Pairs R all → Pairs R kept
  pairs_thinned R kept [] t p = subst (Pairs R) (sym t) tt
  pairs_thinned R kept (step ∷ all) (inl (more, (e, t))) p = subst (Pairs R) (sym e) (
    λ y a. p.0 y (among_thinned more all t y a),
    pairs_thinned R more all t p.1,
  )
  pairs_thinned R kept (step ∷ all) (inr (h, t)) p = pairs_thinned R kept all t p.1

  -- what is left of the moves of a state is wanted
  pub thinned_moves : {K : Type 0} (sp : Meaning S M K) (u : S) (kept all : List (Step S M)) →
      Thins spared kept all → AreMoves sp u all → AreWanted sp u spared kept
  thinned_moves sp u kept all t moves = record {
    sound = λ step c. moves.sound step
        (among_contains all step (among_thinned kept all t step (contains_among kept step c)));
    whole = λ m v c follow. by m v c (kept_or_spared kept all t (record { to = v; by = m; cost = c })
        (contains_among all (record { to = v; by = m; cost = c }) (moves.whole m v c follow)));
    once = pairs_all (λ (x y : Step S M). x.by ≢ y.by) kept (pairs_thinned (λ (x y : Step S M). x.by ≢ y.by) kept all t
        (all_pairs (λ (x y : Step S M). x.by ≢ y.by) all moves.once));
  }
    where
      by : (m : M) (v : S) (c : ℤ) → Among (record { to = v; by = m; cost = c }) kept ⊎ (spared v c ≡ true) →
          Contains kept (record { to = v; by = m; cost = c }) ⊎ (spared v c ≡ true)
      by m v c (inl a) = inl (among_contains kept (record { to = v; by = m; cost = c }) a)
      by m v c (inr h) = inr h

  -- ---- added to others

  pub adds_none : (old : List (Step S M)) → Adds spared old [] old
  adds_none old = record { kept = []; is = sym (append-nil old); thins = refl }

  pub adds_one : (old new : List (Step S M)) (step : Step S M) → new ≡ old ++ step ∷ [] →
      Adds spared old (step ∷ []) new
  adds_one old new step e = record { kept = step ∷ []; is = e; thins = inl ([], (refl, refl)) }

  pub adds_spared : (old : List (Step S M)) (step : Step S M) → spared step.to step.cost ≡ true →
      Adds spared old (step ∷ []) old
  adds_spared old step h = record { kept = []; is = sym (append-nil old); thins = inr (h, refl) }

  pub adds_more : (old mid new first later : List (Step S M)) → Adds spared old first mid → Adds spared mid later new →
      Adds spared old (first ++ later) new
  adds_more old mid new first later f l = record {
    kept = f.kept ++ l.kept;
    is = l.is ∙ (ap (λ (xs : List (Step S M)). xs ++ l.kept) f.is ∙ append_assoc old f.kept l.kept);
    thins = thins_append f.kept l.kept first later f.thins l.thins;
  }

  -- the same, of an equal list
  pub adds_same : (old new all these : List (Step S M)) → all ≡ these → Adds spared old all new →
      Adds spared old these new
  adds_same old new all these e a = subst (λ (xs : List (Step S M)). Adds spared old xs new) e a
