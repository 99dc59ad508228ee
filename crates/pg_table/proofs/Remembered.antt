-- What is remembered of states stays right.
use Rattle.std.proofs.Common.{◌≡◌, ℕ, ◌+◌, ◌⊎◌, ◌<◌, inl, inr, Bool, true, false, List, [], ◌∷◌, ◌++◌, refl, sym, subst, ap, arith}
use Rattle.std.specs.Prelude.{ℤ, ◌+ℤ◌, ◌<ℤ◌, Contains, nat_lt}
use Rattle.std.proofs.lemmas.Int.{ints}
use Rattle.std.proofs.lemmas.List.Elements.{Contains-append_left, Contains-push}
use Rattle.std.specs.declared.cmp.Ordering.{Ordering}
use Rattle.pg_lemmas.proofs.Bools.{not_both, or_cases, or_left, or_right}
use Rattle.pg_lemmas.proofs.Numbers.{less_of, less_true}
use Rattle.pg_table.specs.Space.{Meaning, Lawful, Better, Undercuts}
use Rattle.pg_table.specs.Label.{IsLabel, BetterLabel, reached}
use Rattle.pg_table.specs.Searching.{Pruned, Taken}
use Rattle.pg_table.specs.Needless.{AreMarks, IsNeedless, IsOutdone, Known, MarksMore, is_spared}
use Rattle.pg_table.specs.declared.step.Step.{Step}
use Rattle.pg_table.specs.declared.table.Entry.{Entry}
use Rattle.pg_table.proofs.Labels.{label_own}
use Rattle.pg_table.proofs.Opening.{with_reach}

module _ {S M K : Type 0} (sp : Meaning S M K) where
  -- where the labels stay, but for their reaches and their places
  pub marks_stay : (es fs : List (Entry S M)) (P Q : Entry S M → Type 0) (outdone : S → ℤ → Bool) →
      ((e : Entry S M) → Known es P e →
      (f : Entry S M) × (Known fs Q f × (f.state ≡ e.state) × (f.cost ≡ e.cost))) →
      AreMarks sp es P outdone → AreMarks sp fs Q outdone
  marks_stay es fs P Q outdone stay m = record { known = λ v c own h. by v c (m.known v c own h) }
    where
      by : (v : S) (c : ℤ) → IsOutdone sp (Known es P) v c → IsOutdone sp (Known fs Q) v c
      by v c o =
          let f : (f : Entry S M) × (Known fs Q f × (f.state ≡ o.entry.state) × (f.cost ≡ o.entry.cost)) =
          stay o.entry o.among in
          record {
            entry = f.0;
            among = f.1.0;
            no_worse = subst (λ u. sp.no_worse u v ≡ true) (sym f.1.1) o.no_worse;
            cheaper = subst (λ d. d <ℤ c) (sym f.1.2) o.cheaper;
          }

  -- a pending label is opened
  pub marks_opened : (es : List (Entry S M)) (P Q : Entry S M → Type 0) (outdone : S → ℤ → Bool) (x : Entry S M)
      (r : ℕ) → Taken sp es x P Q → AreMarks sp es P outdone → AreMarks sp (es ++ with_reach x r ∷ []) Q outdone
  marks_opened es P Q outdone x r tk m = marks_stay es (es ++ with_reach x r ∷ []) P Q outdone stay m
    where
      from : (e : Entry S M) → Q e ⊎ (e ≡ x) → (f : Entry S M) ×
          (Known (es ++ with_reach x r ∷ []) Q f × (f.state ≡ e.state) × (f.cost ≡ e.cost))
      from e (inl q) = (e, (inr q, refl, refl))
      from e (inr same) = (
        with_reach x r,
        (
          inl (Contains-push es (with_reach x r)),
          ap (λ z. z.state) (sym same),
          ap (λ z. z.cost) (sym same),
        ),
      )

      stay : (e : Entry S M) → Known es P e → (f : Entry S M) ×
          (Known (es ++ with_reach x r ∷ []) Q f × (f.state ≡ e.state) × (f.cost ≡ e.cost))
      stay e (inl c) = (e, (inl (Contains-append_left es (with_reach x r ∷ []) e c), refl, refl))
      stay e (inr c) = from e (tk.cases e c)

  -- nothing is remembered
  pub marks_none : (es : List (Entry S M)) (P : Entry S M → Type 0) (outdone : S → ℤ → Bool) →
      ((v : S) (c : ℤ) → outdone v c ≡ false) → AreMarks sp es P outdone
  marks_none es P outdone none = record { known = λ v c own h. absurd (not_both (outdone v c) h (none v c)) }

  -- a move that is spared needs no label
  pub spared_needless : (t : ℕ) (es : List (Entry S M)) (P : Entry S M → Type 0) (outdone : S → ℤ → Bool) →
      AreMarks sp es P outdone → (v : S) (c : ℤ) → sp.Own v → is_spared sp t outdone v c ≡ true →
      IsNeedless sp t (Known es P) v c
  unfolding is_spared
  spared_needless t es P outdone m v c own h = elim (or_cases (nat_lt (sp.block v + 1) t) (outdone v c) h) [
    | inl l ↦ inl (less_true (sp.block v + 1) t l)
    | inr o ↦ inr (m.known v c own o)
  ]

  pub low_spared : (t : ℕ) (outdone : S → ℤ → Bool) (v : S) (c : ℤ) → sp.block v + 1 < t →
      is_spared sp t outdone v c ≡ true
  unfolding is_spared
  low_spared t outdone v c l = or_left (nat_lt (sp.block v + 1) t) (outdone v c) (less_of (sp.block v + 1) t l)

  pub outdone_spared : (t : ℕ) (outdone : S → ℤ → Bool) (v : S) (c : ℤ) → outdone v c ≡ true →
      is_spared sp t outdone v c ≡ true
  unfolding is_spared
  outdone_spared t outdone v c o = or_right (nat_lt (sp.block v + 1) t) (outdone v c) o

-- what undercuts a cost is below what that is below
undercut_below : {M : Type 0} (order : M → M → Ordering) (c : ℤ) (ms : List M) (d : ℤ) (ns : List M) (k : ℤ) →
    Undercuts order c ms d ns → d <ℤ k → c <ℤ k
undercut_below order c ms d ns k (inl less) h = omega (arith, ints)
undercut_below order c ms d ns k (inr same) h = subst (λ z. z <ℤ k) (sym same.0) h

-- one label more is remembered, and is pending unless another betters it
module _ {S M K : Type 0} (eq : K → K → Bool) (sp : Meaning S M K) (law : Lawful eq sp) (es : List (Entry S M))
    (P Q : Entry S M → Type 0) (opened : (e : Entry S M) → Contains es e → IsLabel sp es e)
    (pending : (e : Entry S M) → P e → IsLabel sp es e) (y : Entry S M) (label : IsLabel sp es y)
    (p : Pruned sp es y P Q) where
  is_label : (e : Entry S M) → P e ⊎ (e ≡ y) → IsLabel sp es e
  is_label e (inl c) = pending e c
  is_label e (inr same) = subst (IsLabel sp es) (sym same) label

  still : (e : Entry S M) (v : S) (c : ℤ) → sp.Own v → P e ⊎ (e ≡ y) → sp.no_worse e.state v ≡ true → e.cost <ℤ c →
      IsOutdone sp (Known es Q) v c
  still e v c own among better less = by (p.covers e among)
    where
      by : (q : Entry S M) × (Q q × BetterLabel sp es q e) → IsOutdone sp (Known es Q) v c
      by (q, (held, over)) =
          let lq : IsLabel sp es q = is_label q (p.fewer q held) in
          let le : IsLabel sp es e = is_label e among in
          let b : Better sp (reached q lq.moves) (reached e le.moves) =
          over.better lq.moves le.moves lq.run_of le.run_of in
          record {
            entry = q;
            among = inr held;
            no_worse = law.transitive q.state e.state v (label_own eq sp law es q lq) (label_own eq sp law es e le) own
                b.no_worse better;
            cheaper = undercut_below sp.order q.cost lq.moves e.cost le.moves c b.undercuts less;
          }

  pub marks_more : (NoWorse : S → S → Type 0) → ((a b : S) → NoWorse a b → sp.no_worse a b ≡ true) →
      (old new : S → ℤ → Bool) → AreMarks sp es P old → MarksMore NoWorse old y.state y.cost new → AreMarks sp es Q new
  marks_more NoWorse alike old new m more = record { known = λ v c own h. either v c own (more v c h) }
    where
      known : (v : S) (c : ℤ) → sp.Own v → IsOutdone sp (Known es P) v c → IsOutdone sp (Known es Q) v c
      known v c own o = elim o.among [
        | inl at ↦ record { entry = o.entry; among = inl at; no_worse = o.no_worse; cheaper = o.cheaper }
        | inr at ↦ still o.entry v c own (inl at) o.no_worse o.cheaper
      ]

      either : (v : S) (c : ℤ) → sp.Own v → (old v c ≡ true) ⊎ (NoWorse y.state v × (y.cost <ℤ c)) →
          IsOutdone sp (Known es Q) v c
      either v c own (inl was) = known v c own (m.known v c own was)
      either v c own (inr here) = still y v c own (inr refl)
          (alike y.state v here.0) here.1

  -- the same, where the label is made of a step
  pub marks_step : (NoWorse : S → S → Type 0) → ((a b : S) → NoWorse a b → sp.no_worse a b ≡ true) →
      (old new : S → ℤ → Bool) → AreMarks sp es P old → (last step : Step S M) → last ≡ step → (k : ℤ) →
      y.state ≡ step.to → y.cost ≡ k +ℤ step.cost → MarksMore NoWorse old last.to (k +ℤ last.cost) new →
      AreMarks sp es Q new
  marks_step NoWorse alike old new m last step same k state cost more = marks_more NoWorse alike old new m
      (subst (λ z. MarksMore NoWorse old z y.cost new) (sym state)
      (subst (λ z. MarksMore NoWorse old step.to z new) (sym cost)
      (subst (λ z. MarksMore NoWorse old z.to (k +ℤ z.cost) new) same more)))
