-- The labels of a filled table tell the reach of a place.
use Rattle.std.proofs.Common.{◌≡◌, refl, sym, ap, ◌∙◌, subst, ℕ, ◌+◌, ◌≤◌, ◌<◌, inl, inr, List, [], ◌∷◌, ◌++◌, length, take, drop, arith, true, Some, ℤ, pos, ◌+ℤ◌}
use Rattle.std.specs.Prelude.{reverse, slice_get}
use Rattle.std.specs.List.{AllByRecursion}
use Rattle.std.proofs.lemmas.Int.{ints}
use Rattle.pg_list.specs.declared.item.Item.{Item}
use Rattle.pg_list.specs.declared.variants.Variant.{Variant}
use Rattle.pg_list.specs.declared.galley.Place.{Place}
use Rattle.pg_list.specs.Places.{items_around, place}
use Rattle.pg_list.specs.Shapes.{IsBlock}
use Rattle.pg_list.specs.Flat.{FlatItem, fronts, variant_flat_items}
use Rattle.std.proofs.Math.Nat.{le_refl}
use Rattle.std.proofs.lemmas.List.{take_all}
use Rattle.pg_rules.specs.IsState.{IsPlace}
use Rattle.pg_rules.specs.Reach.{IsReach, Reaches}
use Rattle.pg_rules.specs.Room.{Document}
use Rattle.pg_style.specs.Ranges.{IsStyle}
use Rattle.pg_table.specs.Label.{Covered}
use Rattle.pg_table.specs.Space.{Run}
use Rattle.pg_table.specs.declared.table.Entry.{Entry}
use Rattle.pg_column.specs.Passed.{Passed, fits, nothing, pass_items}
use Rattle.law_walk.specs.Reached.{IsAlongLabel, IsGreatest, quiet, reach_along, tallest}
use Rattle.law_walk.specs.Space.{HasLabels, IsStart, WalkState, walk_meaning}
use Rattle.law_walk.specs.Walk.{first_front, past_stretch, picked_front, picked_stretch, singles, variants_at}
use Rattle.law_walk.proofs.Complete.{Goes}
use Rattle.law_walk.proofs.Reach.{Before, HasWay, along_attained, along_below, free_at, has_way, lead, reached_at}
use Rattle.law_walk.proofs.Sound.{IsAt, IsBefore, before_pick, own_items, start as start_before}
use Rattle.law_walk.proofs.SpaceLaws.{AreSame, PassesToo, are_same, passes_too, past_parts}
use Rattle.law_walk.proofs.Tables.{HasLast, last_pick, runs_stand}
use Rattle.std.proofs.lemmas.Option.{same_Some}
use Rattle.law_walk.proofs.Ways.{front_some}
use Rattle.law_walk.proofs.Bounds.{fits_less}

front_block : (m q : ℕ) (own : List Item) (ys : List FlatItem) (x : FlatItem) → 0 < length own →
    slice_get (variant_flat_items m q own ++ ys) 0 ≡ Some x → x.place.block ≡ m
front_block m q [] ys x h e = absurd (omega (arith, h))
front_block m q (item ∷ own) ys x h e =
    let same : ◌≡◌ {A = FlatItem} (record { place = place m 0 0; item = item; is_front = true }) x = cc in
    sym (ap (λ (y : FlatItem). y.place.block) same)

module _ (doc : Document) (all : AllByRecursion IsBlock doc.blocks) (is-style : IsStyle doc.style) (from : Place)
    (at : IsPlace doc.blocks from) (begin : WalkState) (begins : IsStart (quiet doc) (tallest doc.style) from begin)
  where
    abbrev still : Document
    still = quiet doc

    abbrev top : ℤ
    top = tallest doc.style

    abbrev Reached : ℕ → Type 0
    Reached n = (to : Place) × (Reaches doc from to × (to.block ≡ n))

    -- ---- along a pick's stretch

    module _ (picks : List ℕ) (b q : ℕ) (s : Passed) (d : ℤ) (v : Variant) (o : IsAt still top all from at picks b s d)
        (there : slice_get (variants_at doc.blocks b) q ≡ Some v) (f : fits s.bound top ≡ true) (a : Reached b) where
      before : IsBefore still top all from at (picks ++ q ∷ []) (picked_front doc.blocks b) s (d +ℤ pos v.demerits)
          (picked_stretch doc.blocks b q)
      before = before_pick still top all from at picks b q s d v o there (free_at doc.blocks b q v all there)

      some : 0 < length (items_around doc.blocks (place b q 0))
      some = own_items still top all from at picks b q s d v o there

      pick_reached : Reached (reach_along still top (picked_front doc.blocks b) s (picked_stretch doc.blocks b q))
      pick_reached = along_attained doc all is-style from at (picks ++ q ∷ []) (picked_front doc.blocks b) s
          (d +ℤ pos v.demerits) (picked_stretch doc.blocks b q) before before.counted
          (λ x g. subst Reached (sym (front_block b q (items_around doc.blocks (place b q 0))
          (singles (b + 1) (drop (b + 1) doc.blocks)) x some g)) a)
          (λ z. absurd (let l = front_some b q (items_around doc.blocks (place b q 0))
          (singles (b + 1) (drop (b + 1) doc.blocks)) some in omega (arith, z, l)))
          (picked_stretch doc.blocks b q) 0 s (omega arith) refl refl f

      front_reached : (r : Passed) → past_stretch still top s (picked_stretch doc.blocks b q) ≡ Some r →
          Reached (picked_front doc.blocks b)
      front_reached r g =
          let parts = past_parts still top s r (picked_stretch doc.blocks b q) g in (
            place (picked_front doc.blocks b) 0 0,
            (
              reached_at doc all is-style from at (picks ++ q ∷ []) (picked_front doc.blocks b) s (d +ℤ pos v.demerits)
                  (picked_stretch doc.blocks b q) before (length (picked_stretch doc.blocks b q))
                  (place (picked_front doc.blocks b) 0 0) r (inr (refl, refl)) before.full
                  (ap (pass_items still s) (take_all _ (picked_stretch doc.blocks b q) (le_refl _)) ∙ parts.0) parts.1,
              refl,
            ),
          )

    -- ---- runs

    first_before : Before doc all is-style from at [] begin.block nothing (pos 0) (lead doc all is-style from at)
    first_before = subst (λ (b : ℕ). Before doc all is-style from at [] b nothing (pos 0)
        (lead doc all is-style from at))
        (sym begins.block) (start_before still top all from at)

    none_here : fronts first_before.xs (length first_before.xs) + fronts (lead doc all is-style from at) 0 ≡ 0
    none_here = let c = first_before.counted 1 (omega arith) in omega (arith, c)

    first_attained : Reached (reach_along still top begin.block nothing (lead doc all is-style from at))
    first_attained = along_attained doc all is-style from at [] begin.block nothing (pos 0)
        (lead doc all is-style from at)
        first_before first_before.counted
        (λ x g. (
          x.place,
          (
            reached_at doc all is-style from at [] begin.block nothing (pos 0) (lead doc all is-style from at)
                first_before 0
                x.place nothing (inl (x, (g, refl))) none_here refl refl,
            refl,
          ),
        )) (λ z. none_here) (lead doc all is-style from at) 0 nothing (omega arith) refl refl refl

    begin_reached : Reached begin.block
    begin_reached =
        let parts = past_parts still top nothing begin.passed (lead doc all is-style from at) begins.past in (
          place begin.block 0 0,
          (
            reached_at doc all is-style from at [] begin.block nothing (pos 0) (lead doc all is-style from at)
                first_before
                (length (lead doc all is-style from at)) (place begin.block 0 0) begin.passed (inr (refl, refl))
                first_before.full (ap (pass_items still nothing)
                (take_all _ (lead doc all is-style from at) (le_refl _)) ∙ parts.0) parts.1,
            refl,
          ),
        )

    runs_reach : (ms : List ℕ) (u : WalkState) (d : ℤ) → Run (walk_meaning still top begin) ms u d →
        Reached u.block × (fits u.passed.bound top ≡ true)
    runs_reach [] u d (e, z) = (
      subst (λ (x : WalkState). Reached x.block) (sym e) begin_reached,
      subst (λ (x : WalkState). fits x.passed.bound top ≡ true) (sym e)
          (past_parts still top nothing begin.passed (lead doc all is-style from at) begins.past).1,
    )
    runs_reach (m ∷ ms) v c (u, (n, k, (run, f, sum))) = more (runs_reach ms u n run)
      where
        more : Reached u.block × (fits u.passed.bound top ≡ true) → Reached v.block × (fits v.passed.bound top ≡ true)
        more r = (
          subst Reached (sym f.leads) (front_reached (reverse ms) u.block m u.passed n f.variant
              (runs_stand still top all from at begin begins ms u n run) f.there r.1 r.0 v.passed f.past),
          (past_parts still top u.passed v.passed (picked_stretch doc.blocks u.block m) f.past).1,
        )

    -- ---- labels

    module _ (es : List (Entry WalkState ℕ)) (table : HasLabels (walk_meaning still top begin) es) (n : ℕ)
        (greatest : IsGreatest still top from es n) where
      attained : Reached n
      attained = elim greatest.one [
        | inl e ↦ subst Reached
            (sym (e ∙ ap (λ (b : ℕ). reach_along still top b nothing (lead doc all is-style from at))
            (sym begins.block))) first_attained
        | inr l ↦ subst Reached (sym l.is) (by l)
      ]
        where
          by : (l : IsAlongLabel still top es n) →
              Reached (reach_along still top (picked_front doc.blocks l.entry.state.block)
              l.entry.state.passed (picked_stretch doc.blocks l.entry.state.block l.pick))
          by l =
              let label = table.labels l.entry l.listed in
              let r = runs_reach label.moves l.entry.state l.entry.cost label.run in
              pick_reached (reverse label.moves) l.entry.state.block l.pick l.entry.state.passed l.entry.cost l.variant
              (runs_stand still top all from at begin begins label.moves l.entry.state l.entry.cost label.run) l.there
              r.1 r.0

      below : (to : Place) → Reaches doc from to → to.block ≤ n
      below to reached = by (has_way doc all is-style from at to reached)
        where
          last : (w : HasWay doc all is-style from at to) (h : HasLast still top all from at begin begins (record {
            to = to;
            picks = w.picks;
            passed = w.passed;
            pick_demerits = w.price;
          })) → to.block ≤ n
          last w h =
              let y : Covered (walk_meaning still top begin) es
              (record { moves = h.ms; state = h.state; cost = h.price }) =
              table.covered (record { moves = h.ms; state = h.state; cost = h.price }) h.run in
              let s : AreSame y.entry.state h.state = are_same y.entry.state h.state y.better.no_worse in
              let t : PassesToo still y.entry.state.passed w.passed
              (take h.k (picked_stretch doc.blocks h.state.block h.pick)) =
              passes_too still y.entry.state.passed h.state.passed w.passed
              (take h.k (picked_stretch doc.blocks h.state.block h.pick))
              (record { totals = s.totals; notes = s.notes; bound = s.bound }) h.passes in
              let low : to.block ≤ reach_along still top (picked_front doc.blocks h.state.block) y.entry.state.passed
              (picked_stretch doc.blocks h.state.block h.pick) =
              along_below doc all is-style from at (picked_front doc.blocks h.state.block) to y.entry.state.passed
              t.passed
              (picked_stretch doc.blocks h.state.block h.pick) h.k h.stands t.passes
              (fits_less t.passed.bound w.passed.bound top t.lighter.bound w.bound) in
              let m = greatest.labels
              (reach_along still top (picked_front doc.blocks y.entry.state.block) y.entry.state.passed
              (picked_stretch doc.blocks y.entry.state.block h.pick)) (record {
                entry = y.entry;
                pick = h.pick;
                variant = h.variant;
                listed = y.among;
                there = subst (λ (b : ℕ). slice_get (variants_at doc.blocks b) h.pick ≡ Some h.variant) (sym s.block)
                    h.there;
                is = refl;
              }) in
              let same = ap (λ (b : ℕ). reach_along still top (picked_front doc.blocks b) y.entry.state.passed
              (picked_stretch doc.blocks b h.pick)) s.block in
              omega (arith, low, m, same)

          by : HasWay doc all is-style from at to → to.block ≤ n
          by w = cases w.picks refl w.way
            where
              cases : (ps : List ℕ) → w.picks ≡ ps →
                  Goes still top nothing (lead doc all is-style from at) (first_front doc.blocks from) ps to w.passed
                  w.price → to.block ≤ n
              cases [] e (k, (st, (pass, none))) =
                  let low = along_below doc all is-style from at (first_front doc.blocks from) to nothing w.passed
                  (lead doc all is-style from at) k st pass w.bound in
                  let f = greatest.first in omega (arith, low, f)
              cases (q ∷ qs) e (s, (v, (d, (past, (there, (loose, (pays, more))))))) =
                  let own : s ≡ begin.passed = same_Some s begin.passed (sym past ∙ begins.past) in
                  let here : slice_get (variants_at doc.blocks begin.block) q ≡ Some v =
                  subst (λ (b : ℕ). slice_get (variants_at doc.blocks b) q ≡ Some v) (sym begins.block) there in
                  let on : Goes still top begin.passed (picked_stretch doc.blocks begin.block q)
                  (picked_front doc.blocks begin.block) qs to w.passed d =
                  subst (λ (b : ℕ). Goes still top begin.passed (picked_stretch doc.blocks b q)
                  (picked_front doc.blocks b) qs
                  to w.passed d) (sym begins.block)
                  (subst (λ (p : Passed). Goes still top p (picked_stretch doc.blocks (first_front doc.blocks from) q)
                  (picked_front doc.blocks (first_front doc.blocks from)) qs to w.passed d) own more) in
                  last w (last_pick still top all from at begin begins (record {
                    to = to;
                    picks = w.picks;
                    passed = w.passed;
                    pick_demerits = w.price;
                  }) qs q [] begin (pos 0) d v (refl, refl) here loose on e (omega (arith, ints, pays)))

      pub labels_tell_reach : IsReach doc from (n + 1)
      labels_tell_reach = record {
        last = attained.0;
        reached = attained.1.0;
        one_more = ap (λ (k : ℕ). k + 1) (sym attained.1.1);
        greatest = λ to r. let h = below to r in omega (arith, h);
      }
