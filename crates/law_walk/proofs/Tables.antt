-- The ends along the stretches of a filled table's labels suffice.
use Rattle.std.proofs.Common.{◌≡◌, refl, sym, ap, ◌∙◌, subst, ℕ, inl, inr, List, [], ◌∷◌, ◌++◌, take, arith, true, Some, None, ℤ, pos, ◌+ℤ◌}
use Rattle.std.specs.Prelude.{reverse, slice_get}
use Rattle.std.specs.List.{AllByRecursion}
use Rattle.std.specs.Ordering.{is_gt, nat_cmp, ordering_then}
use Rattle.std.specs.declared.cmp.Ordering.{Ordering}
use Rattle.std.specs.declared.cmp.Ordering.TheVariants.{Equal}
use Rattle.std.specs.Cmp.Lexicographic.{slice_cmp}
use Rattle.std.proofs.lemmas.Cmp.{nat_cmp_total, tied_itself}
use Rattle.std.proofs.lemmas.Int.{ints}
use Rattle.std.proofs.lemmas.List.{append_assoc, reverse-append, reverse-reverse}
use Rattle.pg_list.specs.declared.variants.Variant.{Variant}
use Rattle.pg_list.specs.declared.galley.Place.{Place}
use Rattle.pg_list.specs.Places.{place}
use Rattle.pg_list.specs.Shapes.{IsBlock}
use Rattle.pg_rules.specs.IsState.{IsPlace}
use Rattle.pg_rules.specs.Room.{Document}
use Rattle.pg_table.specs.Label.{Covered}
use Rattle.pg_table.specs.Space.{Run, Undercuts}
use Rattle.pg_table.specs.declared.table.Entry.{Entry}
use Rattle.pg_table.proofs.Labels.{label_run}
use Rattle.law_walk.specs.Best.{IsAmong, IsCheaper}
use Rattle.law_walk.specs.Candidates.{AreCandidates, Candidate, CoversIn, IsCandidate, is_usable}
use Rattle.pg_column.specs.Passed.{Passed, nothing, pass_items}
use Rattle.law_walk.specs.Space.{HasLabels, AreCollected, IsFromLabel, IsStart, Picks, WalkState, first_ends, walk_meaning}
use Rattle.law_walk.specs.Walk.{ends_along, first_front, first_items, past_stretch, picked_front, picked_stretch, variants_at}
use Rattle.law_walk.proofs.Complete.{Goes, IsFine, StandsIn, along, made}
use Rattle.law_walk.proofs.Covering.{covers_itself}
use Rattle.law_walk.proofs.Sound.{IsAt, IsBefore, before_pick, candidate_is, listed_along, past_before, start as start_before}
use Rattle.law_walk.proofs.SpaceLaws.{AreSame, PassesToo, are_same, passes_too}
use Rattle.law_walk.proofs.Whole.{fine, way}
use Rattle.std.proofs.lemmas.Option.{same_Some}
use Rattle.law_walk.proofs.Bounds.{fits_less}
use Rattle.pg_column.specs.Judged.{is_loose_enough}

pub turned : (m : ℕ) (ms : List ℕ) → reverse (m ∷ ms) ≡ reverse ms ++ m ∷ []
turned m ms = reverse-append (m ∷ []) ms

module _ (doc : Document) (top : ℤ) (all : AllByRecursion IsBlock doc.blocks) (from : Place)
    (at : IsPlace doc.blocks from) (start : WalkState) (begins : IsStart doc top from start) where
  -- ---- runs stand at fronts

  At : List ℕ → ℕ → Passed → ℤ → Type 0
  At picks b p d = IsAt doc top all from at picks b p d

  pub runs_stand : (ms : List ℕ) (u : WalkState) (d : ℤ) → Run (walk_meaning doc top start) ms u d →
      IsAt doc top all from at (reverse ms) u.block u.passed d
  runs_stand [] u d (e, z) =
      subst (λ (y : ℤ). IsAt doc top all from at [] u.block u.passed y) (sym z)
      (subst (λ (x : WalkState). IsAt doc top all from at [] x.block x.passed (pos 0)) (sym e)
      (subst (λ (b : ℕ). IsAt doc top all from at [] b start.passed (pos 0)) (sym begins.block)
      (past_before doc top all from at [] (first_front doc.blocks from) nothing start.passed (pos 0)
      (first_items doc.blocks from) (start_before doc top all from at) begins.past)))
  runs_stand (m ∷ ms) v c (u, (n, k, (run, f, sum))) = more (runs_stand ms u n run)
    where
      more : IsAt doc top all from at (reverse ms) u.block u.passed n →
          IsAt doc top all from at (reverse (m ∷ ms)) v.block v.passed c
      more o =
          let before = before_pick doc top all from at (reverse ms) u.block m u.passed n f.variant o f.there f.loose in
          let there : IsAt doc top all from at (reverse ms ++ m ∷ []) (picked_front doc.blocks u.block) v.passed
          (n +ℤ pos f.variant.demerits) =
          past_before doc top all from at (reverse ms ++ m ∷ []) (picked_front doc.blocks u.block) u.passed v.passed
          (n +ℤ pos f.variant.demerits) (picked_stretch doc.blocks u.block m) before f.past in
          let price : c ≡ n +ℤ pos f.variant.demerits = sum ∙ ap (λ (z : ℤ). n +ℤ z) f.pays in
          subst (λ (z : ℤ). IsAt doc top all from at (reverse (m ∷ ms)) v.block v.passed z) (sym price)
          (subst (λ (b : ℕ). IsAt doc top all from at (reverse (m ∷ ms)) b v.passed (n +ℤ pos f.variant.demerits))
          (sym f.leads)
          (subst (λ (ps : List ℕ). IsAt doc top all from at ps (picked_front doc.blocks u.block) v.passed
          (n +ℤ pos f.variant.demerits)) (sym (turned m ms)) there))

  -- ---- the last pick of a way

  pub record HasLast (c : Candidate) : Type 0 where
    pub ms : List ℕ
    pub state : WalkState
    pub price : ℤ
    pub pick : ℕ
    pub variant : Variant
    pub k : ℕ
    pub run : Run (walk_meaning doc top start) ms state price
    pub there : slice_get (variants_at doc.blocks state.block) pick ≡ Some variant
    pub loose : is_loose_enough doc.style variant ≡ true
    pub stands : StandsIn (picked_stretch doc.blocks state.block pick) (picked_front doc.blocks state.block) k c.to
    pub passes : pass_items doc state.passed (take k (picked_stretch doc.blocks state.block pick)) ≡ Some c.passed
    pub picks : c.picks ≡ reverse (pick ∷ ms)
    pub pays : c.pick_demerits ≡ price +ℤ pos variant.demerits

  pub last_pick : (c : Candidate) (qs : List ℕ) (q : ℕ) (ms : List ℕ) (u : WalkState) (d e : ℤ) (v : Variant) →
      Run (walk_meaning doc top start) ms u d → slice_get (variants_at doc.blocks u.block) q ≡ Some v →
      is_loose_enough doc.style v ≡ true →
      Goes doc top u.passed (picked_stretch doc.blocks u.block q) (picked_front doc.blocks u.block) qs c.to c.passed e →
      c.picks ≡ reverse ms ++ q ∷ qs → c.pick_demerits ≡ (d +ℤ pos v.demerits) +ℤ e → HasLast c
  last_pick c [] q ms u d e v run there loose (k, (st, (pass, none))) picks pays = record {
    ms = ms;
    state = u;
    price = d;
    pick = q;
    variant = v;
    k = k;
    run = run;
    there = there;
    loose = loose;
    stands = st;
    passes = pass;
    picks = picks ∙ sym (turned q ms);
    pays = omega (arith, ints, pays, none);
  }
  last_pick c (q' ∷ qs) q ms u d e v run there loose (s, (w, (e', (past, (there', (loose', (pays', more))))))) picks
      pays =
      let next : WalkState = record { block = picked_front doc.blocks u.block; passed = s } in
      let step : Picks doc top u q next (pos v.demerits) = record {
        variant = v;
        there = there;
        loose = loose;
        past = past;
        leads = refl;
        pays = refl;
      } in
      last_pick c qs q' (q ∷ ms) next (d +ℤ pos v.demerits) e' w (u, (d, pos v.demerits, (run, step, refl))) there'
      loose'
      more (picks ∙ (sym (append_assoc (reverse ms) (q ∷ []) (q' ∷ qs))
      ∙ ap (λ (ps : List ℕ). ps ++ q' ∷ qs) (sym (turned q ms)))) (omega (arith, ints, pays, pays'))

  -- ---- from a table

  module _ (es : List (Entry WalkState ℕ)) (table : HasLabels (walk_meaning doc top start) es)
      (cs : List Candidate) (those : AreCollected doc top from es cs) where
    from_label : (c : Candidate) → IsFromLabel doc top es c → IsCandidate doc from c
    from_label c l =
        let run : Run (walk_meaning doc top start) l.picks l.entry.state l.entry.cost =
        label_run (walk_meaning doc top start) es l.entry l.picks (table.labels l.entry l.listed) l.run in
        let o = runs_stand l.picks l.entry.state l.entry.cost run in
        let before = before_pick doc top all from at (reverse l.picks) l.entry.state.block l.pick l.entry.state.passed
        l.entry.cost l.variant o l.there l.loose in
        let before' : IsBefore doc top all from at (reverse (l.pick ∷ l.picks))
        (picked_front doc.blocks l.entry.state.block)
        l.entry.state.passed (l.entry.cost +ℤ pos l.variant.demerits)
        (picked_stretch doc.blocks l.entry.state.block l.pick) =
        subst (λ (ps : List ℕ). IsBefore doc top all from at ps (picked_front doc.blocks l.entry.state.block)
        l.entry.state.passed (l.entry.cost +ℤ pos l.variant.demerits)
        (picked_stretch doc.blocks l.entry.state.block l.pick)) (sym (turned l.pick l.picks)) before in
        candidate_is doc top all from at (reverse (l.pick ∷ l.picks)) (picked_front doc.blocks l.entry.state.block)
        l.entry.state.passed (l.entry.cost +ℤ pos l.variant.demerits)
        (picked_stretch doc.blocks l.entry.state.block l.pick) c before'
        (listed_along doc top all from at (reverse (l.pick ∷ l.picks)) (l.entry.cost +ℤ pos l.variant.demerits)
        (picked_front doc.blocks l.entry.state.block) l.entry.state.passed
        (picked_stretch doc.blocks l.entry.state.block l.pick) c l.along)

    from_first : (c : Candidate) → IsAmong c (first_ends doc top from) → IsCandidate doc from c
    from_first c m = candidate_is doc top all from at [] (first_front doc.blocks from) nothing (pos 0)
        (first_items doc.blocks from) c (start_before doc top all from at)
        (listed_along doc top all from at [] (pos 0) (first_front doc.blocks from) nothing
        (first_items doc.blocks from) c m)

    then_same : (o : Ordering) (p : Ordering) → o ≡ Equal → is_gt (ordering_then o p) ≡ is_gt p
    then_same o p e = rw e refl

    cheaper_by : (q : ℕ) (ms ns : List ℕ) (c d z : ℤ) → Undercuts nat_cmp c ns d ms →
        IsCheaper (c +ℤ z) (reverse (q ∷ ns)) (d +ℤ z) (reverse (q ∷ ms))
    cheaper_by q ms ns c d z (inl p) = inl (omega (arith, ints, p))
    cheaper_by q ms ns c d z (inr p) = inr (
      ap (λ (y : ℤ). y +ℤ z) p.0,
      ap is_gt (ap (λ (xs : List ℕ). slice_cmp nat_cmp xs (reverse (reverse (q ∷ ms)))) (reverse-reverse (q ∷ ns))
          ∙ ap (slice_cmp nat_cmp (q ∷ ns)) (reverse-reverse (q ∷ ms)))
          ∙ (then_same (nat_cmp q q) (slice_cmp nat_cmp ns ms) (tied_itself nat_cmp_total q) ∙ p.1),
    )

    covered : (c : Candidate) → IsFine doc top c.to c.passed → HasLast c → CoversIn cs c
    covered c f h =
        let w : Covered (walk_meaning doc top start) es (record { moves = h.ms; state = h.state; cost = h.price }) =
        table.covered (record { moves = h.ms; state = h.state; cost = h.price }) h.run in
        let s : AreSame w.entry.state h.state = are_same w.entry.state h.state w.better.no_worse in
        let t : PassesToo doc w.entry.state.passed c.passed
        (take h.k (picked_stretch doc.blocks h.state.block h.pick)) =
        passes_too doc w.entry.state.passed h.state.passed c.passed
        (take h.k (picked_stretch doc.blocks h.state.block h.pick))
        (record { totals = s.totals; notes = s.notes; bound = s.bound }) h.passes in
        let same : w.entry.state.block ≡ h.state.block = s.block in
        let a : Candidate = record {
          to = c.to;
          picks = reverse (h.pick ∷ w.moves);
          passed = t.passed;
          pick_demerits = w.entry.cost +ℤ pos h.variant.demerits;
        } in
        let fine' : IsFine doc top c.to t.passed = record {
          ends = rw t.lighter.totals f.ends;
          limits = rw t.lighter.notes f.limits;
          bound = fits_less t.passed.bound c.passed.bound top t.lighter.bound f.bound;
        } in
        let here : IsAmong a (ends_along doc top (reverse (h.pick ∷ w.moves)) (w.entry.cost +ℤ pos h.variant.demerits)
        (place (picked_front doc.blocks h.state.block) 0 0) w.entry.state.passed
        (picked_stretch doc.blocks h.state.block h.pick)) =
        along doc top (reverse (h.pick ∷ w.moves)) (w.entry.cost +ℤ pos h.variant.demerits)
        (picked_front doc.blocks h.state.block) c.to w.entry.state.passed t.passed
        (picked_stretch doc.blocks h.state.block h.pick) h.k h.stands t.passes fine' in
        let l : IsFromLabel doc top es a = record {
          entry = w.entry;
          picks = w.moves;
          pick = h.pick;
          variant = h.variant;
          listed = w.among;
          run = w.run_of;
          there = subst (λ (b : ℕ). slice_get (variants_at doc.blocks b) h.pick ≡ Some h.variant) (sym same) h.there;
          loose = h.loose;
          along = subst (λ (b : ℕ). IsAmong a (ends_along doc top (reverse (h.pick ∷ w.moves))
              (w.entry.cost +ℤ pos h.variant.demerits) (place (picked_front doc.blocks b) 0 0) w.entry.state.passed
              (picked_stretch doc.blocks b h.pick))) (sym same) here;
        } in
        record {
          candidate = a;
          listed = those.labels a l;
          covers = record {
            to = refl;
            totals = t.lighter.totals;
            notes = t.lighter.notes;
            bound = t.lighter.bound;
            cheaper = subst (λ (z : ℤ). IsCheaper (w.entry.cost +ℤ pos h.variant.demerits)
                (reverse (h.pick ∷ w.moves)) z c.picks)
                (sym h.pays) (subst (λ (ps : List ℕ). IsCheaper (w.entry.cost +ℤ pos h.variant.demerits)
                (reverse (h.pick ∷ w.moves)) (h.price +ℤ pos h.variant.demerits) ps) (sym h.picks)
                (cheaper_by h.pick h.ms w.moves w.entry.cost h.price (pos h.variant.demerits) w.better.undercuts));
          };
        }

    whole : (c : Candidate) → IsCandidate doc from c → is_usable doc.style top c.passed ≡ true → CoversIn cs c
    whole c is usable = by c.picks refl (way doc top all from at c is usable)
      where
        good : IsFine doc top c.to c.passed
        good = fine doc top all from at c is usable

        by : (ps : List ℕ) → c.picks ≡ ps →
            Goes doc top nothing (first_items doc.blocks from) (first_front doc.blocks from) ps c.to c.passed
            c.pick_demerits →
            CoversIn cs c
        by [] e (k, (st, (pass, none))) =
            let here : IsAmong (made doc top c.to [] c.passed (pos 0)) (first_ends doc top from) =
            along doc top [] (pos 0) (first_front doc.blocks from) c.to nothing c.passed (first_items doc.blocks from)
            k st pass
            good in
            let same : made doc top c.to [] c.passed (pos 0) ≡ c =
            alike c.to [] c.picks c.passed (pos 0) c.pick_demerits (sym e) (sym none) in
            record {
              candidate = c;
              listed = those.first c (subst (λ (x : Candidate). IsAmong x (first_ends doc top from)) same here);
              covers = covers_itself c;
            }
          where
            alike : (to : Place) (ps qs : List ℕ) (p : Passed) (x y : ℤ) → ps ≡ qs → x ≡ y →
                made doc top to ps p x ≡ made doc top to qs p y
            alike to ps qs p x y a b = cc
        by (q ∷ qs) e (s, (w, (d, (past, (there, (loose, (pays, more))))))) =
            let own : s ≡ start.passed = same_Some s start.passed (sym past ∙ begins.past) in
            let here : slice_get (variants_at doc.blocks start.block) q ≡ Some w =
            subst (λ (b : ℕ). slice_get (variants_at doc.blocks b) q ≡ Some w) (sym begins.block) there in
            let on : Goes doc top start.passed (picked_stretch doc.blocks start.block q)
            (picked_front doc.blocks start.block) qs
            c.to c.passed d =
            subst (λ (b : ℕ). Goes doc top start.passed (picked_stretch doc.blocks b q) (picked_front doc.blocks b) qs
            c.to
            c.passed d) (sym begins.block)
            (subst (λ (p : Passed). Goes doc top p (picked_stretch doc.blocks (first_front doc.blocks from) q)
            (picked_front doc.blocks (first_front doc.blocks from)) qs c.to c.passed d) own more) in
            covered c good (last_pick c qs q [] start (pos 0) d w (refl, refl) here loose on e
            (omega (arith, ints, pays)))

    pub labels_suffice : AreCandidates doc from top cs
    labels_suffice = record {
      sound = λ c m. elim (those.each c m) [ inl p ↦ from_first c p | inr l ↦ from_label c l ];
      whole = whole;
    }

-- the first ends suffice where no way has a first pick
module _ (doc : Document) (top : ℤ) (all : AllByRecursion IsBlock doc.blocks) (from : Place)
    (at : IsPlace doc.blocks from) (alone : (q : ℕ) (qs : List ℕ) (to : Place) (passed : Passed) (d : ℤ) →
    Goes doc top nothing (first_items doc.blocks from) (first_front doc.blocks from) (q ∷ qs) to passed d → ⊥) where
  first_suffice : AreCandidates doc from top (first_ends doc top from)
  first_suffice = record {
    sound = λ c m. candidate_is doc top all from at [] (first_front doc.blocks from) nothing (pos 0)
        (first_items doc.blocks from) c (start_before doc top all from at)
        (listed_along doc top all from at [] (pos 0) (first_front doc.blocks from) nothing
        (first_items doc.blocks from) c m);
    whole = λ c is usable. by c is usable c.picks refl (way doc top all from at c is usable);
  }
    where
      by : (c : Candidate) (is : IsCandidate doc from c) → is_usable doc.style top c.passed ≡ true → (ps : List ℕ) →
          c.picks ≡ ps →
          Goes doc top nothing (first_items doc.blocks from) (first_front doc.blocks from) ps c.to c.passed
          c.pick_demerits →
          CoversIn (first_ends doc top from) c
      by c is usable [] e (k, (st, (pass, none))) =
          let here : IsAmong (made doc top c.to [] c.passed (pos 0)) (first_ends doc top from) =
          along doc top [] (pos 0) (first_front doc.blocks from) c.to nothing c.passed (first_items doc.blocks from) k
          st pass
          (fine doc top all from at c is usable) in
          let same : made doc top c.to [] c.passed (pos 0) ≡ c =
          alike c.to [] c.picks c.passed (pos 0) c.pick_demerits (sym e) (sym none) in
          record {
            candidate = c;
            listed = subst (λ (x : Candidate). IsAmong x (first_ends doc top from)) same here;
            covers = covers_itself c;
          }
        where
          alike : (to : Place) (ps qs : List ℕ) (p : Passed) (x y : ℤ) → ps ≡ qs → x ≡ y →
              made doc top to ps p x ≡ made doc top to qs p y
          alike to ps qs p x y a b = cc
      by c is usable (q ∷ qs) e on = absurd (alone q qs c.to c.passed c.pick_demerits on)

-- where the first stretch is not passed, its ends suffice
module _ (doc : Document) (top : ℤ) (all : AllByRecursion IsBlock doc.blocks) (from : Place)
    (at : IsPlace doc.blocks from) (stopped : past_stretch doc top nothing (first_items doc.blocks from) ≡ None) where
  pub stretch_suffices : AreCandidates doc from top (first_ends doc top from)
  stretch_suffices = first_suffice doc top all from at none
    where
      none : (q : ℕ) (qs : List ℕ) (to : Place) (passed : Passed) (d : ℤ) →
          Goes doc top nothing (first_items doc.blocks from) (first_front doc.blocks from) (q ∷ qs) to passed d → ⊥
      none q qs to passed d (s, (w, (paid, (past, more)))) = absurd (let k : None ≡ Some s = sym stopped ∙ past in cc)

-- and so they do where no choice stands behind it
module _ (doc : Document) (top : ℤ) (all : AllByRecursion IsBlock doc.blocks) (from : Place)
    (at : IsPlace doc.blocks from) (last : variants_at doc.blocks (first_front doc.blocks from) ≡ []) where
  pub end_suffices : AreCandidates doc from top (first_ends doc top from)
  end_suffices = first_suffice doc top all from at none
    where
      none : (q : ℕ) (qs : List ℕ) (to : Place) (passed : Passed) (d : ℤ) →
          Goes doc top nothing (first_items doc.blocks from) (first_front doc.blocks from) (q ∷ qs) to passed d → ⊥
      none q qs to passed d (s, (w, (paid, (past, (there, more))))) = absurd (
          let k : slice_get [] q ≡ Some w = subst (λ (vs : List Variant). slice_get vs q ≡ Some w) last there in cc
          )
