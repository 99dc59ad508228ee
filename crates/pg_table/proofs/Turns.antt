-- Each bucket with a label has one turn, and the others have none.
use Rattle.std.proofs.Common.{◌≡◌, ℕ, ◌+◌, ◌≤◌, ◌<◌, inl, inr, Bool, true, false, if◌then◌else◌, List, [], ◌∷◌, length, get_or, set, refl, sym, ◌∙◌, ap, subst, arith, Some, eq-eqb}
use Rattle.std.proofs.lemmas.Bool.{eqb-true}
use Rattle.std.specs.Prelude.{◌==◌, ◌≢◌, Contains, slice_get, sum_by}
use Rattle.std.specs.Ordering.{nat_cmp}
use Rattle.std.specs.List.Sorted.{IsPermutation}
use Rattle.std.specs.declared.cmp.Reverse.{Reverse}
use Rattle.std.proofs.lemmas.Cmp.{by_ranked, ranked}
use Rattle.std.proofs.lemmas.List.Elements.{Contains-append_right, Contains-append_cases}
use Rattle.std.proofs.lemmas.List.Sums.{sum_by-append, sum_by_push}
use Rattle.std.proofs.lemmas.List.Sorted.{Contains-permutation, IsPermutation-sym, sum_by_popped, sum_by_pushed}
use Rattle.std.proofs.lemmas.Option.{slice_get_within, same_Some}
use Rattle.pg_table.specs.Space.{Meaning}
use Rattle.pg_table.specs.Label.{PrunedAmong, BetterLabel}
use Rattle.pg_table.specs.Pending.{Placed, HasTurn, Exact, turns_at}
use Rattle.pg_table.specs.Bucket.{Labels}
use Rattle.pg_table.specs.declared.table.Entry.{Entry}
use Rattle.pg_table.specs.declared.pending.Turn.{Turn}
use Rattle.pg_table.proofs.Lists.{slice_get_grow, set_same, set_other, some_length}
use Rattle.pg_lemmas.proofs.Lists.{none_among}

abbrev at : ℕ → Reverse Turn → ℕ
at i t = if t.0.place == i then 1 else 0

at_same : (i : ℕ) (t : Reverse Turn) → t.0.place ≡ i → at i t ≡ 1
at_same i t e = ap (λ (b : Bool). if b then 1 else 0) (eq-eqb t.0.place i e)

at_other : (i : ℕ) (t : Reverse Turn) → t.0.place ≢ i → at i t ≡ 0
at_other i t n = by (t.0.place == i) refl
  where
    by : (b : Bool) → (t.0.place == i) ≡ b → at i t ≡ 0
    by true e = absurd (n (eqb-true t.0.place i e))
    by false e = ap (λ (b : Bool). if b then 1 else 0) e

in_more : (x : Reverse Turn) (xs : List (Reverse Turn)) (t : Reverse Turn) → Contains xs t →
    Contains (x ∷ xs) t
in_more x xs t c = Contains-append_right (x ∷ []) xs t c

first_turn : (i : ℕ) (x : Reverse Turn) (xs : List (Reverse Turn)) →
    turns_at i (x ∷ xs) ≡ at i x + turns_at i xs
first_turn i x xs =
    let s : turns_at i (x ∷ xs) ≡ turns_at i (x ∷ []) + turns_at i xs = sum_by-append (at i) (x ∷ []) xs in
    let o : turns_at i (x ∷ []) ≡ sum_by (at i) [] + at i x = sum_by_push (at i) [] x in
    let z : sum_by (at i) [] ≡ 0 = refl in
    omega arith

-- a place with a turn has one at least
some_at : (i : ℕ) (ts : List (Reverse Turn)) (t : Reverse Turn) → Contains ts t → at i t ≤ turns_at i ts
some_at i [] t c = absurd (none_among t c)
some_at i (x ∷ xs) t c = let s : turns_at i (x ∷ xs) ≡ at i x + turns_at i xs = first_turn i x xs in
    elim (Contains-append_cases (x ∷ []) xs t c) [
      | inl h ↦ let e : at i t ≡ at i x = ap (at i) (single x t h) in omega arith
      | inr h ↦ let l : at i t ≤ turns_at i xs = some_at i xs t h in omega arith
    ]
  where
    single : (x t : Reverse Turn) → Contains (x ∷ []) t → t ≡ x
    single x t (n, l, e) = let z : n ≡ 0 = omega arith in sym (ap (λ n. get_or (x ∷ []) n t) (sym z) ∙ e)

-- a place that no turn is of has none
none_at : (i : ℕ) (ts : List (Reverse Turn)) → ((t : Reverse Turn) → Contains ts t → t.0.place ≢ i) →
    turns_at i ts ≡ 0
none_at i [] n = refl
none_at i (x ∷ xs) n =
    let a : at i x ≡ 0 = at_other i x (n x (0, omega arith, refl)) in
    let b : turns_at i xs ≡ 0 = none_at i xs (λ t c. n t (in_more x xs t c)) in
    let e : turns_at i (x ∷ xs) ≡ at i x + turns_at i xs = first_turn i x xs in
    omega arith

module _ {S M : Type 0} (bs : List (Labels S M)) (ts : List (Reverse Turn)) where
  pub exact_none : ts ≡ [] → Exact bs ts
  exact_none e = record {
    filled = λ t c. absurd (none_among t (subst (λ z. Contains z t) e c));
    single = λ i. let z : turns_at i ts ≡ 0 = ap (turns_at i) e in omega arith;
  }

  module _ (x : Exact bs ts) where
    pub exact_placed : {K : Type 0} (eq : K → K → Bool) (ks : List K) (key : K) (ks' : List K)
        (bs' : List (Labels S M)) (i : ℕ) → Placed eq ks bs key ks' bs' i → Exact bs' ts
    exact_placed {K} eq ks key ks' bs' i pl = record {
      filled = λ t c. grown t (x.filled t c);
      single = x.single;
    }
      where
        grown : (t : Reverse Turn) → (b : Labels S M) × ((slice_get bs t.0.place ≡ Some b) ×
            (0 < length b.items)) → (b : Labels S M) × ((slice_get bs' t.0.place ≡ Some b) ×
            (0 < length b.items))
        grown t (b, (is, l)) = (
          b,
          (
            elim pl.either [
              | inl o ↦ subst (λ z. slice_get z t.0.place ≡ Some b) (sym o.0) is
              | inr n ↦ subst (λ z. slice_get z t.0.place ≡ Some b) (sym n.2.1.1) (slice_get_grow bs
                  (n.2.0 ∷ []) t.0.place b is)
            ],
            l,
          ),
        )

    -- a bucket is written that has a label then
    filled_set : (i : ℕ) (c : Labels S M) → i < length bs → 0 < length c.items →
        (t : Reverse Turn) → Contains ts t → (b : Labels S M) ×
        ((slice_get (set bs i c) t.0.place ≡ Some b) × (0 < length b.items))
    filled_set i c within l t has = by (x.filled t has)
      where
        here : t.0.place ≡ i → (b : Labels S M) × ((slice_get (set bs i c) t.0.place ≡ Some b) ×
            (0 < length b.items))
        here e = (c, (subst (λ j. slice_get (set bs i c) j ≡ Some c) (sym e) (set_same bs i c within), l))

        by : (b : Labels S M) × ((slice_get bs t.0.place ≡ Some b) × (0 < length b.items)) →
            (b : Labels S M) × ((slice_get (set bs i c) t.0.place ≡ Some b) ×
            (0 < length b.items))
        by (b, (is, m)) =
            by_ranked (t.0.place < i) (t.0.place ≡ i) (i < t.0.place) (nat_cmp t.0.place i)
            (ranked t.0.place i (nat_cmp t.0.place i) refl)
            (λ _ h. (b, (set_other bs i c within t.0.place b (λ e. omega arith) is, m)))
            (λ _ e. here e)
            (λ _ h. (b, (set_other bs i c within t.0.place b (λ e. omega arith) is, m)))

    pub exact_set : (i : ℕ) (c : Labels S M) → i < length bs → 0 < length c.items →
        Exact (set bs i c) ts
    exact_set i c within l = record { filled = filled_set i c within l; single = x.single }

    -- a label is put into a bucket, which has a turn then
    pub exact_inserted : {K : Type 0} (sp : Meaning S M K) (es : List (Entry S M)) (y : Entry S M) (i : ℕ)
        (ts' : List (Reverse Turn)) → HasTurn sp y.state i bs ts ts' → (b : Labels S M) →
        slice_get bs i ≡ Some b → (c : Labels S M) → PrunedAmong sp es y b.items c.items →
        Exact (set bs i c) ts'
    exact_inserted {K} sp es y i ts' turn b bat c pr = elim turn.either [
      | inl o ↦ subst (Exact (set bs i c)) (sym o.0) (exact_set i c within some)
      | inr n ↦ more n.0 (n.1 b bat)
    ]
      where
        within : i < length bs
        within = slice_get_within bs i b bat

        some : 0 < length c.items
        some = let q : (q : Entry S M) × (Contains c.items q × BetterLabel sp es q y) = pr.covers y
            (inr refl) in some_length c.items q.0 q.1.0

        the : Reverse Turn
        the = record { 0 = record { block = sp.block y.state; rank = sp.rank y.state; place = i } }

        more : IsPermutation (the ∷ ts) ts' → length b.items ≡ 0 → Exact (set bs i c) ts'
        more perm empty = record { filled = filled; single = single }
          where
            elsewhere : (t : Reverse Turn) → Contains ts t → t.0.place ≢ i
            elsewhere t h = λ e.
                let f : (d : Labels S M) × ((slice_get bs t.0.place ≡ Some d) ×
                (0 < length d.items)) = x.filled t h in
                let same : f.0 ≡ b = same_Some f.0 b (sym f.1.0 ∙ (ap (slice_get bs) e ∙ bat)) in
                let n : length f.0.items ≡ length b.items = ap (λ z. length z.items) same in
                omega (arith, f.1.1)

            filled : (t : Reverse Turn) → Contains ts' t → (d : Labels S M) ×
                ((slice_get (set bs i c) t.0.place ≡ Some d) × (0 < length d.items))
            filled t h = elim (Contains-append_cases (the ∷ []) ts t (Contains-permutation ts' (the ∷ ts) t
                (IsPermutation-sym (the ∷ ts) ts' perm) h)) [
                  | inl a ↦ (
                    c,
                    (
                      subst (λ j. slice_get (set bs i c) j ≡ Some c) (place_of t a)
                          (set_same bs i c within),
                      some,
                    ),
                  )
                  | inr a ↦ filled_set i c within some t a
                ]
              where
                first : (x y : Reverse Turn) → Contains (x ∷ []) y → x ≡ y
                first x y (n, l, e) = let z : n ≡ 0 = omega arith in ap (λ n. get_or (x ∷ []) n y) (sym z) ∙ e

                place_of : (t : Reverse Turn) → Contains (the ∷ []) t → i ≡ t.0.place
                place_of t a = ap (λ z. z.0.place) (first the t a)

            single : (j : ℕ) → turns_at j ts' ≤ 1
            single j =
                let e : turns_at j ts' ≡ at j the + turns_at j ts = sum_by_pushed (at j) the ts ts' perm in
                let l : turns_at j ts ≤ 1 = x.single j in
                by_ranked (i < j) (i ≡ j) (j < i) (nat_cmp i j) (ranked i j (nat_cmp i j) refl)
                (λ _ h. let z : at j the ≡ 0 = at_other j the (λ e. omega arith) in omega arith)
                (λ _ h. let z : at j the ≡ 1 = at_same j the h in let n : turns_at j ts ≡ 0 = none_at j ts
                (λ t c e. elsewhere t c (e ∙ sym h)) in omega arith)
                (λ _ h. let z : at j the ≡ 0 = at_other j the (λ e. omega arith) in omega arith)

    -- a turn is done, and no other is of its place
    module _ (t : Reverse Turn) (ts' : List (Reverse Turn)) (perm : IsPermutation ts (t ∷ ts')) where
      fewer : (j : ℕ) → turns_at j ts' + at j t ≡ turns_at j ts
      fewer j = sum_by_popped (at j) t ts ts' perm

      stays : (u : Reverse Turn) → Contains ts' u → Contains ts u
      stays u c = Contains-permutation (t ∷ ts') ts u (IsPermutation-sym ts (t ∷ ts') perm)
          (in_more t ts' u c)

      other : (u : Reverse Turn) → Contains ts' u → u.0.place ≢ t.0.place
      other u c = λ e.
          let a : turns_at t.0.place ts' + at t.0.place t ≡ turns_at t.0.place ts = fewer t.0.place in
          let b : at t.0.place t ≡ 1 = at_same t.0.place t refl in
          let d : at t.0.place u ≡ 1 = at_same t.0.place u e in
          let l : at t.0.place u ≤ turns_at t.0.place ts' = some_at t.0.place ts' u c in
          let m : turns_at t.0.place ts ≤ 1 = x.single t.0.place in
          omega arith

      pub exact_done : (bs' : List (Labels S M)) → ((j : ℕ) (b : Labels S M) →
          j ≢ t.0.place → slice_get bs j ≡ Some b → slice_get bs' j ≡ Some b) → Exact bs' ts'
      exact_done bs' same = record {
        filled = λ u c. let f : (b : Labels S M) × ((slice_get bs u.0.place ≡ Some b) ×
            (0 < length b.items)) = x.filled u (stays u c) in (
              f.0,
              (
                same u.0.place f.0 (other u c) f.1.0,
                f.1.1,
              ),
            );
        single = λ j. let e : turns_at j ts' + at j t ≡ turns_at j ts = fewer j in let l : turns_at j ts ≤ 1 =
            x.single j in omega arith;
      }
