-- One label more.
use Rattle.std.proofs.Common.{◌≡◌, refl, sym, ap, ◌∙◌, subst, ℕ, zero, suc, ◌<◌, ◌^◌, inl, inr, Some, Result, Ok, Err, IfOk, OnOk, List, [], ◌∷◌, ◌++◌, ◌+◌, length, take, arith, ℤ}
use Rattle.std.specs.Prelude.{Contains, get_or, nat_abs, reverse, slice_get}
use Rattle.std.proofs.lemmas.Option.{slice_get-get_or}
use Rattle.std.proofs.lemmas.List.{reverse-reverse}
use Rattle.std.proofs.lemmas.Int.{ints}
use Rattle.pg_lemmas.proofs.Lists.{one_more}
use Rattle.pg_rules.specs.Legal.{document}
use Rattle.pg_rules.specs.Ranges.{AreInRange}
use Rattle.pg_rules.specs.Room.{Document}
use Rattle.pg_list.specs.GalleyValue.{GalleyValue}
use Rattle.pg_style.specs.Values.{StyleValue}
use Rattle.pg_hops.specs.declared.state.State.{State}
use Rattle.pg_table.specs.Label.{IsTable, RunOf}
use Rattle.pg_table.specs.Space.{Small}
use Rattle.pg_table.specs.declared.table.Entry.{Entry}
use Rattle.pg_table.proofs.Labels.{label_own, one_run}
use Rattle.law_walk.specs.Best.{IsAmong}
use Rattle.law_walk.specs.Candidates.{Candidate}
use Rattle.law_walk.proofs.BestLaws.{among_contains, contains_among}
use Rattle.pg_walk.specs.Meaning.{IsOwn, space_meaning}
use Rattle.pg_walk.specs.WalkLawful.{key_test, walk_space_lawful}
use Rattle.pg_walk.proofs.Moves.{among_cases, among_left, among_right}
use Rattle.pg_walk.specs.Collected.{AreSmall, Collects, HasEnds, IsOfLabels, label_ends}

module _ (doc : Document) (top : ℤ) (es : List (Entry State ℕ)) where
  widen : (xs ys : List (Entry State ℕ)) (c : Candidate) → IsOfLabels doc top es xs c →
      IsOfLabels doc top es (xs ++ ys) c
  widen xs ys c l = record {
    entry = l.entry;
    picks = l.picks;
    listed = among_contains (xs ++ ys) l.entry (among_left xs ys l.entry (contains_among xs l.entry l.listed));
    run = l.run;
    among = l.among;
  }

  pub none_yet : (old : List Candidate) → HasEnds doc top es [] old old
  none_yet old = record {
    each = λ c a. inl a;
    kept = λ c a. a;
    labels = λ c l. absurd (contains_among [] l.entry l.listed);
  }

  one_label : (xs : List (Entry State ℕ)) (e : Entry State ℕ) (picks : List ℕ) (old mid new : List Candidate) →
      HasEnds doc top es xs old mid → RunOf es e (reverse picks) → new ≡ mid ++ label_ends doc top e picks →
      HasEnds doc top es (xs ++ e ∷ []) old new
  one_label xs e picks old mid new h run is = record {
    each = λ c a. elim (among_cases mid (label_ends doc top e picks) c (subst (IsAmong c) is a)) [
      | inl p ↦ elim (h.each c p) [ inl q ↦ inl q | inr l ↦ inr (widen xs (e ∷ []) c l) ]
      | inr q ↦ inr (record {
        entry = e;
        picks = reverse picks;
        listed = among_contains (xs ++ e ∷ []) e (among_right xs (e ∷ []) e (inl refl));
        run = run;
        among = subst (λ (ms : List ℕ). IsAmong c (label_ends doc top e ms)) (sym (reverse-reverse picks)) q;
      })
    ];
    kept = λ c a. subst (IsAmong c) (sym is) (among_left mid (label_ends doc top e picks) c (h.kept c a));
    labels = λ c l. subst (IsAmong c) (sym is)
        (elim (among_cases xs (e ∷ []) l.entry (contains_among (xs ++ e ∷ []) l.entry l.listed)) [
          | inl p ↦ among_left mid (label_ends doc top e picks) c (h.labels c (record {
            entry = l.entry;
            picks = l.picks;
            listed = among_contains xs l.entry p;
            run = l.run;
            among = l.among;
          }))
          | inr q ↦ among_right mid (label_ends doc top e picks) c (last c l q)
        ]);
  }
    where
      last : (c : Candidate) (l : IsOfLabels doc top es (xs ++ e ∷ []) c) → IsAmong l.entry (e ∷ []) →
          IsAmong c (label_ends doc top e picks)
      last c l (inl p) =
          let own : RunOf es e l.picks = subst (λ (x : Entry State ℕ). RunOf es x l.picks) (sym p) l.run in
          let same : l.picks ≡ reverse picks = one_run es e l.picks (reverse picks) own run in
          subst (λ (ms : List ℕ). IsAmong c (label_ends doc top e ms)) (ap reverse same ∙ reverse-reverse picks)
          (subst (λ (x : Entry State ℕ). IsAmong c (label_ends doc top x (reverse l.picks))) (sym p) l.among)
      last c l (inr a) = absurd a

  -- the labels up to and including the next
  pub next_label : (index : ℕ) (e : Entry State ℕ) (picks : List ℕ) (old mid new : List Candidate) →
      index < length es → e ≡ get_or es index e → HasEnds doc top es (take index es) old mid →
      RunOf es e (reverse picks) → new ≡ mid ++ label_ends doc top e picks →
      HasEnds doc top es (take (index + 1) es) old new
  next_label index e picks old mid new less is h run added =
      subst (λ (xs : List (Entry State ℕ)). HasEnds doc top es xs old new) (sym (one_more es index e less is))
      (one_label (take index es) e picks old mid new h run added)

small_abs : (c : ℤ) → Small c → nat_abs c < 2 ^ 62
small_abs c s = omega (arith, ints, s.above, s.below)

-- the labels of a filled table
are_small : (galley : GalleyValue) (style : StyleValue) (top : ℤ) (start : State) (range : AreInRange galley style)
    (own : IsOwn (document galley style) top start) (es : List (Entry State ℕ)) →
    IsTable (space_meaning (document galley style) top start) es → AreSmall (document galley style) top es
are_small galley style top start range own es table =
    let law = walk_space_lawful galley style top start range own in
    record {
      own = λ e c. label_own key_test (space_meaning (document galley style) top start) law es e (table.labels e c);
      small = λ e c. let l = table.labels e c in small_abs e.cost (law.small_run l.moves e.state e.cost l.run);
    }

-- ---- at an index

at_among : {X : Type 0} (xs : List X) (i : ℕ) (d : X) → i < length xs → IsAmong (get_or xs i d) xs
at_among [] i d h = absurd (omega (arith, h))
at_among (x ∷ xs) zero d h = inl refl
at_among (x ∷ xs) (suc i) d h = inr (at_among xs i d (omega (arith, h)))

pub contains_at : {X : Type 0} (xs : List X) (i : ℕ) (x : X) → i < length xs → x ≡ get_or xs i x → Contains xs x
contains_at xs i x h is = among_contains xs x (subst (λ y. IsAmong y xs) (sym is) (at_among xs i x h))

pub got_at : {X : Type 0} (xs : List X) (i : ℕ) (x : X) → i < length xs → x ≡ get_or xs i x → slice_get xs i ≡ Some x
got_at xs i x h is = slice_get-get_or xs i x h ∙ ap Some (sym is)

-- ---- of the same document and state

module _ (g g' : GalleyValue) (s s' : StyleValue) (t t' : ℤ) (u u' : State) (p : g ≡ g') (q : s ≡ s') (r : t ≡ t')
    (o : u ≡ u') where
  table_at : (es : List (Entry State ℕ)) → IsTable (space_meaning (document g s) t u) es →
      IsTable (space_meaning (document g' s') t' u') es
  table_at es h =
      subst (λ x. IsTable (space_meaning (document x s') t' u') es) p
      (subst (λ x. IsTable (space_meaning (document g x) t' u') es) q
      (subst (λ x. IsTable (space_meaning (document g s) x u') es) r
      (subst (λ x. IsTable (space_meaning (document g s) t x) es) o h)))

  pub filled_at : {E : Type 0} (result : Result (List (Entry State ℕ)) E) →
      IfOk result (IsTable (space_meaning (document g s) t u)) →
      IfOk result (IsTable (space_meaning (document g' s') t' u'))
  filled_at (Ok es) h = table_at es h
  filled_at (Err e) h = tt

pub filled_small : {E : Type 0} (result : Result (List (Entry State ℕ)) E) (galley : GalleyValue) (style : StyleValue)
    (top : ℤ) (start : State) → AreInRange galley style → IsOwn (document galley style) top start →
    IfOk result (IsTable (space_meaning (document galley style) top start)) →
    IfOk result (AreSmall (document galley style) top)
filled_small (Ok es) galley style top start range own h = are_small galley style top start range own es h
filled_small (Err e) galley style top start range own h = tt

pub collected : {T E : Type 0} (r : Result T E) (doc : Document) (top : ℤ) (start : State) (es : List (Entry State ℕ))
    (old new : List Candidate) → IsTable (space_meaning doc top start) es → OnOk r (HasEnds doc top es es old new) →
    OnOk r (Collects doc top start old new)
collected (Ok x) doc top start es old new table ends = record { es = es; table = table; ends = ends }
collected (Err x) doc top start es old new table ends = tt
