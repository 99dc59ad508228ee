-- What is collected along the labels in code is what the walk asks for.
use Rattle.std.proofs.Common.{◌≡◌, refl, sym, subst, ℕ, zero, suc, ◌+◌, inl, inr, Some, Bool, true, false, List, [], ◌∷◌, ◌++◌, arith, ℤ, pos, ◌+ℤ◌}
use Rattle.std.specs.Prelude.{if◌then◌else◌, reverse, slice_get}
use Rattle.law_walk.proofs.Tables.{turned}
use Rattle.std.proofs.lemmas.Option.{same_Some}
use Rattle.pg_list.specs.Places.{place}
use Rattle.pg_list.specs.declared.galley.Place.{Place}
use Rattle.pg_list.specs.declared.variants.Variant.{Variant}
use Rattle.pg_column.specs.Judged.{is_loose_enough}
use Rattle.pg_lemmas.proofs.Bools.{if_true}
use Rattle.pg_rules.specs.Room.{Document}
use Rattle.pg_hops.specs.declared.state.State.{State}
use Rattle.pg_table.specs.Label.{IsTable, RunOf}
use Rattle.pg_table.specs.declared.table.Entry.{Entry}
use Rattle.pg_table.proofs.Labels.{one_run}
use Rattle.law_walk.specs.Best.{IsAmong}
use Rattle.law_walk.specs.Candidates.{Candidate}
use Rattle.law_walk.specs.Space.{AreCollected, IsFromLabel, WalkState, first_ends}
use Rattle.law_walk.specs.Walk.{ends_along, picked_front, picked_stretch, variants_at}
use Rattle.law_walk.proofs.BestLaws.{among_contains, contains_among}
use Rattle.pg_walk.specs.Meaning.{space_meaning, state_of}
use Rattle.pg_walk.proofs.Lifted.{HasOrigin, among_map, entries_of, entry_of, origin_of, run_of_mapped}
use Rattle.pg_walk.proofs.Moves.{among_cases, among_left, among_right}
use Rattle.pg_walk.specs.Collected.{HasEnds, IsOfLabels, ends_from, pick_ends}

module _ (doc : Document) (top : ℤ) (u : WalkState) (cost : ℤ) (ms : List ℕ) where
  -- the ends along the stretch of a pick
  abbrev pub Along : ℕ → Variant → List Candidate
  Along k v = ends_along doc top (ms ++ k ∷ []) (cost +ℤ pos v.demerits) (place (picked_front doc.blocks u.block) 0 0)
      u.passed (picked_stretch doc.blocks u.block k)

  pub record HasPick (k : ℕ) (vs : List Variant) (c : Candidate) : Type 0 where
    pub offset : ℕ
    pub variant : Variant
    pub there : slice_get vs offset ≡ Some variant
    pub loose : is_loose_enough doc.style variant ≡ true
    pub along : IsAmong c (Along (k + offset) variant)

  pub has_pick : (k : ℕ) (vs : List Variant) (c : Candidate) → IsAmong c (ends_from doc top u cost ms k vs) →
      HasPick k vs c
  has_pick k [] c a = absurd a
  has_pick k (v ∷ vs) c a =
      elim (among_cases (pick_ends doc top u cost ms k v) (ends_from doc top u cost ms (k + 1) vs) c a) [
        | inl p ↦ first (is_loose_enough doc.style v) refl p
        | inr q ↦ later (has_pick (k + 1) vs c q)
      ]
    where
      first : (b : Bool) → is_loose_enough doc.style v ≡ b → IsAmong c (if b then Along k v else []) →
          HasPick k (v ∷ vs) c
      first false e m = absurd m
      first true e m = record {
        offset = 0;
        variant = v;
        there = refl;
        loose = e;
        along = subst (λ (n : ℕ). IsAmong c (Along n v)) (omega arith) m;
      }

      later : HasPick (k + 1) vs c → HasPick k (v ∷ vs) c
      later r = record {
        offset = suc r.offset;
        variant = r.variant;
        there = r.there;
        loose = r.loose;
        along = subst (λ (n : ℕ). IsAmong c (Along n r.variant)) (omega arith) r.along;
      }

  pub listed : (k : ℕ) (vs : List Variant) (n : ℕ) (v : Variant) (c : Candidate) → slice_get vs n ≡ Some v →
      is_loose_enough doc.style v ≡ true → IsAmong c (Along (k + n) v) → IsAmong c (ends_from doc top u cost ms k vs)
  listed k [] n v c t e m = absurd cc
  listed k (w ∷ vs) zero v c t e m =
      let same : w ≡ v = same_Some w v t in
      among_left (pick_ends doc top u cost ms k w) (ends_from doc top u cost ms (k + 1) vs) c
      (subst (λ (x : Variant). IsAmong c (pick_ends doc top u cost ms k x)) (sym same)
      (subst (IsAmong c) (sym (if_true (is_loose_enough doc.style v) (Along k v) [] e))
      (subst (λ (j : ℕ). IsAmong c (Along j v)) (omega arith) m)))
  listed k (w ∷ vs) (suc n) v c t e m =
      among_right (pick_ends doc top u cost ms k w) (ends_from doc top u cost ms (k + 1) vs) c
      (listed (k + 1) vs n v c t e (subst (λ (j : ℕ). IsAmong c (Along j v)) (omega arith) m))

module _ (doc : Document) (top : ℤ) (start : State) (es : List (Entry State ℕ))
    (table : IsTable (space_meaning doc top start) es) where
  pub from_label : (c : Candidate) → IsOfLabels doc top es es c → IsFromLabel doc top (entries_of es) c
  from_label c l =
      let r = has_pick doc top (state_of l.entry.state) l.entry.cost (reverse l.picks) 0
      (variants_at doc.blocks l.entry.state.block) c l.among in
      let z : 0 + r.offset ≡ r.offset = omega arith in
      record {
        entry = entry_of l.entry;
        picks = l.picks;
        pick = r.offset;
        variant = r.variant;
        listed = among_contains (entries_of es) (entry_of l.entry)
            (among_map entry_of es l.entry (contains_among es l.entry l.listed));
        run = run_of_mapped state_of es l.entry l.picks l.run;
        there = r.there;
        loose = r.loose;
        along = subst (λ (ps : List ℕ). IsAmong c (ends_along doc top ps (l.entry.cost +ℤ pos r.variant.demerits)
            (place (picked_front doc.blocks l.entry.state.block) 0 0) (state_of l.entry.state).passed
            (picked_stretch doc.blocks l.entry.state.block r.offset))) (sym (turned r.offset l.picks))
            (subst (λ (n : ℕ). IsAmong c (Along doc top (state_of l.entry.state) l.entry.cost (reverse l.picks) n
            r.variant)) z r.along);
      }

  pub to_label : (c : Candidate) → IsFromLabel doc top (entries_of es) c → IsOfLabels doc top es es c
  to_label c l =
      let o : HasOrigin entry_of es l.entry = origin_of entry_of es l.entry (contains_among (entries_of es) l.entry l.listed) in
      by o.origin o.among o.is
    where
      by : (e : Entry State ℕ) → IsAmong e es → entry_of e ≡ l.entry → IsOfLabels doc top es es c
      by e among is =
          let listed' = among_contains es e among in
          let own = table.labels e listed' in
          let run : RunOf (entries_of es) (entry_of e) l.picks =
          subst (λ (x : Entry WalkState ℕ). RunOf (entries_of es) x l.picks) (sym is) l.run in
          let same : own.moves ≡ l.picks =
          one_run (entries_of es) (entry_of e) own.moves l.picks (run_of_mapped state_of es e own.moves own.run_of) run in
          let z : l.pick ≡ 0 + l.pick = omega arith in
          let there : slice_get (variants_at doc.blocks e.state.block) l.pick ≡ Some l.variant =
          subst (λ (x : Entry WalkState ℕ). slice_get (variants_at doc.blocks x.state.block) l.pick ≡ Some l.variant)
          (sym is) l.there in
          let along : IsAmong c (ends_along doc top (reverse (l.pick ∷ l.picks)) (e.cost +ℤ pos l.variant.demerits)
          (place (picked_front doc.blocks e.state.block) 0 0) (state_of e.state).passed
          (picked_stretch doc.blocks e.state.block l.pick)) =
          subst (λ (x : Entry WalkState ℕ). IsAmong c (ends_along doc top (reverse (l.pick ∷ l.picks))
          (x.cost +ℤ pos l.variant.demerits) (place (picked_front doc.blocks x.state.block) 0 0) x.state.passed
          (picked_stretch doc.blocks x.state.block l.pick))) (sym is) l.along in
          record {
            entry = e;
            picks = l.picks;
            listed = listed';
            run = subst (RunOf es e) same own.run_of;
            among = listed doc top (state_of e.state) e.cost (reverse l.picks) 0
                (variants_at doc.blocks e.state.block) l.pick l.variant c there l.loose
                (subst (λ (n : ℕ). IsAmong c (Along doc top (state_of e.state) e.cost (reverse l.picks) n l.variant)) z
                (subst (λ (ps : List ℕ). IsAmong c (ends_along doc top ps (e.cost +ℤ pos l.variant.demerits)
                (place (picked_front doc.blocks e.state.block) 0 0) (state_of e.state).passed
                (picked_stretch doc.blocks e.state.block l.pick))) (turned l.pick l.picks) along));
          }

pub are_collected : (doc : Document) (top : ℤ) (from : Place) (start : State) (es : List (Entry State ℕ)) →
    IsTable (space_meaning doc top start) es → (new : List Candidate) →
    HasEnds doc top es es (first_ends doc top from) new → AreCollected doc top from (entries_of es) new
are_collected doc top from start es table new ends = record {
  each = λ c a. elim (ends.each c a) [
    | inl p ↦ inl p
    | inr l ↦ inr (from_label doc top start es table c l)
  ];
  first = ends.kept;
  labels = λ c l. ends.labels c (to_label doc top start es table c l);
}
