-- The greatest block along the labels in code is the one that the walk asks for.
use Rattle.std.proofs.Common.{◌≡◌, refl, sym, ap, ◌∙◌, subst, ℕ, ◌+◌, ◌≤◌, ◌<◌, ◌-◌, ◌⊎◌, inl, inr, Some, List, [], ◌∷◌, ◌++◌, length, arith, ℤ}
use Rattle.std.specs.Prelude.{◌==◌, false, max, slice_get}
use Rattle.std.proofs.lemmas.Option.{slice_get_within}
use Rattle.pg_lemmas.proofs.Lists.{none_among, some_at}
use Rattle.pg_rules.specs.Room.{Document}
use Rattle.pg_list.specs.declared.galley.Place.{Place}
use Rattle.pg_hops.specs.declared.state.State.{State}
use Rattle.pg_table.specs.Label.{IsTable}
use Rattle.pg_table.specs.declared.table.Entry.{Entry}
use Rattle.law_walk.specs.Best.{IsAmong}
use Rattle.law_walk.specs.Reached.{IsAlongLabel, IsGreatest, first_reach, greatest_from}
use Rattle.law_walk.specs.Space.{WalkState}
use Rattle.law_walk.specs.Walk.{variants_at}
use Rattle.law_walk.proofs.BestLaws.{among_contains, contains_among}
use Rattle.law_walk.proofs.Reach.{greatest_at, least_of, of_greatest}
use Rattle.pg_walk.specs.Meaning.{greatest_behind, reach_by, space_meaning, state_of}
use Rattle.pg_walk.specs.Reaching.{by_from}
use Rattle.pg_walk.proofs.Lifted.{HasOrigin, among_map, entries_of, entry_of, origin_of}
use Rattle.pg_walk.proofs.Moves.{among_cases, among_left, among_right}
use Rattle.pg_walk.proofs.Reaches.{greatest_with}
use Rattle.pg_walk.specs.Furthest.{AreTold, GoesTo, IsByLabel, IsFurthest}

-- ---- what a label tells

pub some_items : {X : Type 0} (xs : List X) → (length xs == 0) ≡ false → 0 < length xs
some_items [] e = absurd cc
some_items (x ∷ xs) e = omega arith

module _ (doc : Document) (top : ℤ) (e : Entry State ℕ)
    (told : e.reach ≡ greatest_behind doc top (state_of e.state) + 1) (least : ℕ) where
  abbrev By : ℕ → ℕ
  By = reach_by doc top (state_of e.state)

  abbrev picks : ℕ
  picks = length (variants_at doc.blocks e.state.block)

  -- where there are picks, of which none ends before the front
  pub some_picks : 0 < picks → max least (e.reach - 1) ≡ greatest_from By least 0 picks
  some_picks some =
      let first = by_from doc top (state_of e.state) 0 in
      let at = greatest_at By least 0 0 picks e.state.block some first in
      let more = greatest_with By e.state.block least 0 picks in
      let less = greatest_with By least e.state.block 0 picks in
      let turn : max e.state.block least ≡ max least e.state.block = omega arith in
      let same = ap (λ (n : ℕ). greatest_from By n 0 picks) turn in omega (arith, told, at, more, less, same)

-- ---- label by label

module _ (doc : Document) (top : ℤ) where
  pub no_label : (least : ℕ) → IsFurthest doc top [] least least
  no_label least = record {
    one = inl refl;
    above = omega arith;
    labels = λ m l. absurd (none_among l.entry l.listed);
  }

  pub label_more : (xs : List (Entry State ℕ)) (e : Entry State ℕ) (least n m : ℕ) → IsFurthest doc top xs least n →
      m ≡ greatest_from (reach_by doc top (state_of e.state)) n 0 (length (variants_at doc.blocks e.state.block)) →
      IsFurthest doc top (xs ++ e ∷ []) least m
  label_more xs e least n m h is = subst (IsFurthest doc top (xs ++ e ∷ []) least) (sym is) (record {
    one = of_greatest (λ (k : ℕ). (k ≡ least) ⊎ IsByLabel doc top (xs ++ e ∷ []) k) By n 0 count
        (elim h.one [ inl p ↦ inl p | inr l ↦ inr (wider n l) ])
        (λ k l u. inr (record {
          entry = e;
          pick = k;
          listed = among_contains (xs ++ e ∷ []) e (among_right xs (e ∷ []) e (inl refl));
          there = omega (arith, u);
          is = refl;
        }));
    above = let low = least_of By n 0 count in let up = h.above in omega (arith, low, up);
    labels = λ k l. elim (among_cases xs (e ∷ []) l.entry (contains_among (xs ++ e ∷ []) l.entry l.listed)) [
      | inl p ↦ let low = least_of By n 0 count in let up = h.labels k (record {
        entry = l.entry;
        pick = l.pick;
        listed = among_contains xs l.entry p;
        there = l.there;
        is = l.is;
      }) in omega (arith, low, up)
      | inr q ↦ last k l q
    ];
  })
    where
      By : ℕ → ℕ
      By = reach_by doc top (state_of e.state)

      count : ℕ
      count = length (variants_at doc.blocks e.state.block)

      wider : (k : ℕ) → IsByLabel doc top xs k → IsByLabel doc top (xs ++ e ∷ []) k
      wider k l = record {
        entry = l.entry;
        pick = l.pick;
        listed = among_contains (xs ++ e ∷ []) l.entry
            (among_left xs (e ∷ []) l.entry (contains_among xs l.entry l.listed));
        there = l.there;
        is = l.is;
      }

      last : (k : ℕ) (l : IsByLabel doc top (xs ++ e ∷ []) k) → IsAmong l.entry (e ∷ []) →
          k ≤ greatest_from By n 0 count
      last k l (inl p) =
          let within = subst (λ (x : Entry State ℕ). l.pick < length (variants_at doc.blocks x.state.block)) (sym p)
          l.there in
          let same : k ≡ By l.pick = l.is
          ∙ ap (λ (x : Entry State ℕ). reach_by doc top (state_of x.state) l.pick) (sym p) in
          let from : l.pick ≡ 0 + l.pick = omega arith in
          let here : k ≤ By l.pick = omega (arith, same) in
          greatest_at By n 0 l.pick count k within (subst (λ (j : ℕ). k ≤ By j) from here)
      last k l (inr a) = absurd a

-- ---- all labels

pub is_greatest : (doc : Document) (top : ℤ) (from : Place) (es : List (Entry State ℕ)) (n : ℕ) →
    IsFurthest doc top es (first_reach doc top from) n → IsGreatest doc top from (entries_of es) n
is_greatest doc top from es n h = record {
  one = elim h.one [ inl e ↦ inl e | inr l ↦ inr (along l) ];
  first = h.above;
  labels = λ m l. h.labels m (by_label m l);
}
  where
    along : IsByLabel doc top es n → IsAlongLabel doc top (entries_of es) n
    along l =
        let v = some_at (variants_at doc.blocks l.entry.state.block) l.pick l.there in
        record {
          entry = entry_of l.entry;
          pick = l.pick;
          variant = v.0;
          listed = among_contains (entries_of es) (entry_of l.entry)
              (among_map entry_of es l.entry (contains_among es l.entry l.listed));
          there = v.1;
          is = l.is;
        }

    by_label : (m : ℕ) → IsAlongLabel doc top (entries_of es) m → IsByLabel doc top es m
    by_label m l =
        let o : HasOrigin entry_of es l.entry = origin_of entry_of es l.entry (contains_among (entries_of es) l.entry l.listed) in
        record {
          entry = o.origin;
          pick = l.pick;
          listed = among_contains es o.origin o.among;
          there = slice_get_within (variants_at doc.blocks o.origin.state.block) l.pick l.variant
              (subst (λ (x : Entry WalkState ℕ). slice_get (variants_at doc.blocks x.state.block) l.pick
              ≡ Some l.variant) (sym o.is) l.there);
          is = l.is ∙ ap (λ (x : Entry WalkState ℕ). reach_by doc top x.state l.pick) (sym o.is);
        }

pub are_told : (doc : Document) (top : ℤ) (start : State) (es : List (Entry State ℕ)) →
    IsTable (space_meaning doc top start) es → AreTold doc top es
are_told doc top start es table = record { told = table.reaches }

pub goes_to : (doc : Document) (top : ℤ) (start : State) (es : List (Entry State ℕ)) (least n : ℕ) →
    IsTable (space_meaning doc top start) es → (AreTold doc top es → IsFurthest doc top es least n) →
    GoesTo doc top start least n
goes_to doc top start es least n table h =
    record { es = es; table = table; furthest = h (are_told doc top start es table) }
