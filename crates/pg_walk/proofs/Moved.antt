-- The walk behind a front with more height before it is the walk behind the front, moved.
use Rattle.std.proofs.Common.{◌≡◌, refl, sym, ap, ◌∙◌, subst, ℕ, inl, inr, List, [], ◌∷◌, ◌++◌, map, arith, Bool, true, false, Option, Some, None, ℤ, pos, ◌+ℤ◌, ◌-ℤ◌, ◌≤ℤ◌}
use Rattle.std.specs.Prelude.{◌&&◌, ◌||◌, ◌⊎◌, not, if◌then◌else◌, Contains, int_le, option_map, reverse, slice_get}
use Rattle.std.specs.Int.{int_max, int_min}
use Rattle.std.specs.List.{AllByRecursion}
use Rattle.std.specs.Option.{option_map_or}
use Rattle.std.proofs.lemmas.Int.{ints, clamps}
use Rattle.std.proofs.lemmas.List.{map-append}
use Rattle.std.proofs.lemmas.Option.{same_Some}
use Rattle.pg_lemmas.proofs.Bools.{both, both_of, both_ways, if_true}
use Rattle.pg_list.specs.Flat.{FlatItem}
use Rattle.pg_list.specs.Places.{place}
use Rattle.pg_list.specs.Shapes.{IsBlock, is_discardable}
use Rattle.pg_list.specs.declared.galley.Place.{Place}
use Rattle.pg_list.specs.declared.item.Item.{Item}
use Rattle.pg_list.specs.declared.item.Item.TheVariants.{BoxItem, Rule, Glue, Kern}
use Rattle.pg_style.specs.Values.{StyleValue}
use Rattle.pg_sums.specs.Step.{counted, with_item}
use Rattle.pg_sums.specs.declared.totals.Totals.{Totals}
use Rattle.pg_column.specs.Passed.{Passed, are_within, crossed, fits, is_end_here, least_notes, least_room, nothing, pass_item, pass_items, raised, with_next}
use Rattle.pg_rules.specs.IsState.{IsPlace}
use Rattle.pg_rules.specs.Room.{Document}
use Rattle.pg_breaks.specs.Near.{place_forced}
use Rattle.pg_hops.specs.declared.state.State.{State}
use Rattle.pg_table.specs.Label.{Covered, IsLabel, RunOf}
use Rattle.pg_table.specs.Space.{IsRun, Reached, Run}
use Rattle.pg_table.specs.declared.table.Entry.{Entry}
use Rattle.pg_table.proofs.Labels.{one_run}
use Rattle.pg_plan.specs.Order.{place_cmp}
use Rattle.std.specs.declared.cmp.Ordering.TheVariants.{Less}
use Rattle.law_places.proofs.Tests.{int_le_of, int_le_trans, le_int}
use Rattle.law_walk.specs.Best.{IsAmong}
use Rattle.law_walk.specs.Candidates.{AreCandidates, Candidate, is_no_greater, is_usable}
use Rattle.law_walk.specs.Laws.{LabelsSuffice}
use Rattle.law_walk.specs.Reached.{tallest}
use Rattle.law_walk.specs.Space.{AreCollected, HasLabels, IsFromLabel, IsStart, Picks, WalkState, first_ends, is_no_worse, walk_meaning}
use Rattle.law_walk.specs.Walk.{end_here, ends_along, first_front, first_items, past_stretch, picked_front, picked_stretch, variants_at}
use Rattle.law_walk.proofs.BestLaws.{among_contains, contains_among}
use Rattle.law_walk.proofs.Bounds.{fits_less, no_greater_itself}
use Rattle.law_walk.proofs.Ends.{fits_more}
use Rattle.law_walk.proofs.SpaceLaws.{AreSame, are_same, no_worse_of, past_of, past_parts}
use Rattle.law_walk.proofs.Stretches.{items_fit}
use Rattle.pg_walk.specs.Collected.{Collects, IsOfLabels}
use Rattle.pg_walk.specs.Meaning.{state_of}
use Rattle.pg_walk.specs.Fronts.{AreApart, FrontsServe}
use Rattle.pg_walk.specs.Moved.{IsMoved, moved, moved_candidate, over}
use Rattle.pg_walk.proofs.Behind.{apart, start_of}
use Rattle.pg_walk.proofs.Collecting.{from_label, to_label}
use Rattle.pg_walk.proofs.Lifted.{HasOrigin, among_map, entries_of, lifted, origin_of, run_of_mapped, with_state}
use Rattle.pg_walk.proofs.Moves.{among_cases, among_left, among_right}

-- ---- bounds

max_moved : (x y by : ℤ) → int_max (x +ℤ by) (y +ℤ by) ≡ int_max x y +ℤ by
max_moved x y by = omega (arith, ints, clamps)

max_over : (b x y by : ℤ) → int_max (int_max b (x +ℤ by)) (y +ℤ by) ≡ int_max b (int_max x y +ℤ by)
max_over b x y by = omega (arith, ints, clamps)

-- one more room kept is kept by the moved bound, moved
raised_over : (bound o : Option ℤ) (by least : ℤ) →
    raised (over bound by o) (least +ℤ by) ≡ over bound by (raised o least)
raised_over bound None by least = refl
raised_over None (Some x) by least = ap Some (max_moved x least by)
raised_over (Some b) (Some x) by least = ap Some (max_over b x least by)

over_less : (bound a b : Option ℤ) (by : ℤ) → is_no_greater a b ≡ true →
    is_no_greater (over bound by a) (over bound by b) ≡ true
over_less bound None None by n = no_greater_itself bound
over_less None None (Some y) by n = refl
over_less (Some z) None (Some y) by n = int_le_of z (int_max z (y +ℤ by)) (omega (arith, ints, clamps))
over_less bound (Some x) None by n = absurd cc
over_less None (Some x) (Some y) by n =
    let a = le_int x y n in int_le_of (x +ℤ by) (y +ℤ by) (omega (arith, ints, a))
over_less (Some z) (Some x) (Some y) by n =
    let a = le_int x y n in
    int_le_of (int_max z (x +ℤ by)) (int_max z (y +ℤ by)) (omega (arith, ints, clamps, a))

-- where the bound before lets pass, the moved bound lets pass in the moved room what the bound does in the room
pub fits_over : (bound o : Option ℤ) (by top : ℤ) → fits bound (top +ℤ by) ≡ true →
    fits (over bound by o) (top +ℤ by) ≡ fits o top
fits_over bound None by top f = f
fits_over None (Some x) by top f = both_ways (int_le (x +ℤ by) (top +ℤ by)) (int_le x top)
    (λ e. let a = le_int (x +ℤ by) (top +ℤ by) e in int_le_of x top (omega (arith, ints, a)))
    (λ e. let a = le_int x top e in int_le_of (x +ℤ by) (top +ℤ by) (omega (arith, ints, a)))
fits_over (Some b) (Some x) by top f =
    let l = le_int b (top +ℤ by) f in
    both_ways (int_le (int_max b (x +ℤ by)) (top +ℤ by)) (int_le x top)
    (λ e. let a = le_int (int_max b (x +ℤ by)) (top +ℤ by) e in int_le_of x top (omega (arith, ints, clamps, a)))
    (λ e. let a = le_int x top e in
    int_le_of (int_max b (x +ℤ by)) (top +ℤ by) (omega (arith, ints, clamps, a, l)))

-- ---- past items

-- sums with so much more height
abbrev higher : ℤ → Totals → Totals
higher by t = record t { total = t.total +ℤ by }

abbrev with_total : Totals → ℤ → Totals
with_total t total = record t { total = total }

box_height : (t z d h e m by : ℤ) →
    ((((((t +ℤ by) +ℤ z) +ℤ d) +ℤ h) +ℤ e) -ℤ m) ≡ ((((((t +ℤ z) +ℤ d) +ℤ h) +ℤ e) -ℤ m) +ℤ by)
box_height t z d h e m by = omega (arith, ints)

wide_height : (t d w by : ℤ) → ((t +ℤ by) +ℤ d) +ℤ w ≡ ((t +ℤ d) +ℤ w) +ℤ by
wide_height t d w by = omega (arith, ints)

item_higher : (topskip maxdepth by : ℤ) (t : Totals) (item : Item) →
    with_item topskip maxdepth (higher by t) item ≡ higher by (with_item topskip maxdepth t item)
item_higher topskip maxdepth by t (BoxItem height depth body) =
    ap (with_total (with_item topskip maxdepth t (BoxItem height depth body))) (box_height t.total
    (if t.has_box then pos 0 else int_max (pos 0) (topskip -ℤ height)) t.depth height depth (int_min maxdepth depth) by)
item_higher topskip maxdepth by t (Rule height depth body) =
    ap (with_total (with_item topskip maxdepth t (Rule height depth body))) (box_height t.total
    (if t.has_box then pos 0 else int_max (pos 0) (topskip -ℤ height)) t.depth height depth (int_min maxdepth depth) by)
item_higher topskip maxdepth by t (Glue width amount order less body) =
    ap (with_total (with_item topskip maxdepth t (Glue width amount order less body)))
    (wide_height t.total t.depth width by)
item_higher topskip maxdepth by t (Kern width body) =
    ap (with_total (with_item topskip maxdepth t (Kern width body))) (wide_height t.total t.depth width by)
item_higher topskip maxdepth by t _ = refl

-- one more item adds to the sums whatever their height
counted_higher : (topskip maxdepth by : ℤ) (t : Totals) (item : Item) →
    counted topskip maxdepth (higher by t) item ≡ higher by (counted topskip maxdepth t item)
counted_higher topskip maxdepth by t item = either (t.has_box || not (is_discardable item))
  where
    either : (b : Bool) → (if b then with_item topskip maxdepth (higher by t) item else higher by t)
        ≡ higher by (if b then with_item topskip maxdepth t item else t)
    either true = item_higher topskip maxdepth by t item
    either false = refl

-- what was passed asks as much more room
least_higher : (t n s by : ℤ) →
    int_min (((t +ℤ by) +ℤ n) +ℤ pos 1) (((t +ℤ by) +ℤ n) -ℤ s)
    ≡ int_min ((t +ℤ n) +ℤ pos 1) ((t +ℤ n) -ℤ s) +ℤ by
least_higher t n s by = omega (arith, ints, clamps)

-- the state with what was passed moved
abbrev moved_state : ℤ → Option ℤ → WalkState → WalkState
moved_state by bound u = record { block = u.block; passed = moved by bound u.passed }

module _ (doc : Document) (by : ℤ) (bound : Option ℤ) where
  abbrev on : Passed → Passed
  on = moved by bound

  abbrev state_on : WalkState → WalkState
  state_on = moved_state by bound

  abbrev entry_on : Entry WalkState ℕ → Entry WalkState ℕ
  entry_on = with_state (moved_state by bound)

  abbrev end_on : Candidate → Candidate
  end_on = moved_candidate by bound

  -- with these sums and this bound
  abbrev with_parts : Passed → Totals → Option ℤ → Passed
  with_parts p totals limit = record { totals = totals; notes = p.notes; bound = limit }

  next_moved : (p : Passed) (item : Item) → with_next doc.style (on p) item ≡ on (with_next doc.style p item)
  next_moved p item =
      ap (λ (t : Totals). with_parts (with_next doc.style p item) t (over bound by p.bound))
      (counted_higher doc.style.topskip doc.style.maxdepth by p.totals item)

  crossed_moved : (p : Passed) → crossed doc.style (on p) ≡ on (crossed doc.style p)
  crossed_moved p =
      ap (with_parts p (higher by p.totals))
      (ap (raised (over bound by p.bound))
      (least_higher p.totals.total (least_notes doc.style p) p.totals.shrink by)
      ∙ raised_over bound p.bound by (least_room doc.style p))

  item_moved : (p : Passed) (x : FlatItem) → pass_item doc (on p) x ≡ option_map on (pass_item doc p x)
  item_moved p x = either (is_end_here doc.blocks p x.place) (place_forced doc.blocks x.place)
    where
      either : (end forced : Bool) →
          (if end
          then (if forced then None else Some (with_next doc.style (crossed doc.style (on p)) x.item))
          else Some (with_next doc.style (on p) x.item))
          ≡ option_map on (if end
          then (if forced then None else Some (with_next doc.style (crossed doc.style p) x.item))
          else Some (with_next doc.style p x.item))
      either true true = refl
      either true false = ap Some
          (ap (λ (q : Passed). with_next doc.style q x.item) (crossed_moved p)
          ∙ next_moved (crossed doc.style p) x.item)
      either false forced = ap Some (next_moved p x.item)

  items_moved : (p : Passed) (xs : List FlatItem) → pass_items doc (on p) xs ≡ option_map on (pass_items doc p xs)
  items_moved p [] = refl
  items_moved p (x ∷ xs) =
      ap (λ (o : Option Passed). option_map_or (λ (q : Passed). pass_items doc q xs) o None) (item_moved p x)
      ∙ either (pass_item doc p x) (λ q. items_moved q xs)
    where
      either : (o : Option Passed) →
          ((q : Passed) → pass_items doc (on q) xs ≡ option_map on (pass_items doc q xs)) →
          option_map_or (λ (q : Passed). pass_items doc q xs) (option_map on o) None
          ≡ option_map on (option_map_or (λ (q : Passed). pass_items doc q xs) o None)
      either None more = refl
      either (Some q) more = more q

  moved_end : (picks : List ℕ) (demerits : ℤ) (at : Place) (p : Passed) →
      end_here doc picks demerits at (on p) ≡ map end_on (end_here doc picks demerits at p)
  moved_end picks demerits at p = either (is_end_here doc.blocks p at && are_within doc.style p)
    where
      end : Passed → Candidate
      end q = record { to = at; picks = picks; passed = q; pick_demerits = demerits }

      either : (b : Bool) → (if b then end (on p) ∷ [] else [])
          ≡ map end_on (if b then end p ∷ [] else [])
      either true = refl
      either false = refl

  -- ---- along stretches, where some room lets the moved bound pass

  module _ (top : ℤ) (room : fits bound (top +ℤ by) ≡ true) where
    -- what is passed in a room is passed in the moved room, moved, and nothing else
    past_moved : (p : Passed) (xs : List FlatItem) →
        past_stretch doc (top +ℤ by) (on p) xs ≡ option_map on (past_stretch doc top p xs)
    past_moved p xs =
        ap (λ (o : Option Passed).
        option_map_or (λ (q : Passed). if fits q.bound (top +ℤ by) then Some q else None) o None) (items_moved p xs)
        ∙ either (pass_items doc p xs)
      where
        inside : (q : Passed) (b : Bool) →
            ◌≡◌ {A = Option Passed} (if b then Some (on q) else None) (option_map on (if b then Some q else None))
        inside q true = refl
        inside q false = refl

        either : (o : Option Passed) →
            option_map_or (λ (q : Passed). if fits q.bound (top +ℤ by) then Some q else None) (option_map on o) None
            ≡ option_map on (option_map_or (λ (q : Passed). if fits q.bound top then Some q else None) o None)
        either None = refl
        either (Some q) =
            ap (λ (b : Bool). if b then Some (on q) else None) (fits_over bound q.bound by top room)
            ∙ inside q (fits q.bound top)

    ends_moved : (picks : List ℕ) (demerits : ℤ) (behind : Place) (p : Passed) (xs : List FlatItem) →
        ends_along doc (top +ℤ by) picks demerits behind (on p) xs
        ≡ map end_on (ends_along doc top picks demerits behind p xs)
    ends_moved picks demerits behind p [] = moved_end picks demerits behind p
    ends_moved picks demerits behind p (x ∷ xs) =
        ap (λ (cs : List Candidate). cs ++ later (top +ℤ by) (pass_item doc (on p) x))
        (moved_end picks demerits x.place p)
        ∙ (ap (λ (o : Option Passed). map end_on (end_here doc picks demerits x.place p)
        ++ later (top +ℤ by) o) (item_moved p x)
        ∙ (ap (λ (cs : List Candidate). map end_on (end_here doc picks demerits x.place p) ++ cs)
        (either (pass_item doc p x) (λ q. ends_moved picks demerits behind q xs))
        ∙ sym (map-append end_on (end_here doc picks demerits x.place p)
        (later top (pass_item doc p x)))))
      where
        later : ℤ → Option Passed → List Candidate
        later height o = option_map_or
            (λ (q : Passed). if fits q.bound height then ends_along doc height picks demerits behind q xs else []) o []

        inside : (q : Passed) (b : Bool) →
            ends_along doc (top +ℤ by) picks demerits behind (on q) xs
            ≡ map end_on (ends_along doc top picks demerits behind q xs) →
            (if b then ends_along doc (top +ℤ by) picks demerits behind (on q) xs else [])
            ≡ map end_on (if b then ends_along doc top picks demerits behind q xs else [])
        inside q true e = e
        inside q false e = refl

        either : (o : Option Passed) →
            ((q : Passed) → ends_along doc (top +ℤ by) picks demerits behind (on q) xs
            ≡ map end_on (ends_along doc top picks demerits behind q xs)) →
            later (top +ℤ by) (option_map on o) ≡ map end_on (later top o)
        either None more = refl
        either (Some q) more =
            ap (λ (b : Bool). if b then ends_along doc (top +ℤ by) picks demerits behind (on q) xs else [])
            (fits_over bound q.bound by top room)
            ∙ inside q (fits q.bound top) (more q)

    -- ---- picks

    -- they lead from moved states to moved states, and nowhere else
    picks_moved : (u : WalkState) (pick : ℕ) (v : WalkState) (cost : ℤ) → Picks doc top u pick v cost →
        Picks doc (top +ℤ by) (state_on u) pick (state_on v) cost
    picks_moved u pick v cost f = record {
      variant = f.variant;
      there = f.there;
      loose = f.loose;
      past = past_moved u.passed (picked_stretch doc.blocks u.block pick) ∙ ap (option_map on) f.past;
      leads = f.leads;
      pays = f.pays;
    }

    record IsPickOn (u : WalkState) (pick : ℕ) (w : WalkState) (cost : ℤ) : Type 0 where
      state : WalkState
      is : state_on state ≡ w
      picks : Picks doc top u pick state cost

    picks_back : (u : WalkState) (pick : ℕ) (w : WalkState) (cost : ℤ) →
        Picks doc (top +ℤ by) (state_on u) pick w cost → IsPickOn u pick w cost
    picks_back u pick w cost f =
        from_past (past_stretch doc top u.passed (picked_stretch doc.blocks u.block pick)) refl
        (sym (past_moved u.passed (picked_stretch doc.blocks u.block pick)) ∙ f.past)
      where
        from_past : (o : Option Passed) →
            past_stretch doc top u.passed (picked_stretch doc.blocks u.block pick) ≡ o →
            option_map on o ≡ Some w.passed → IsPickOn u pick w cost
        from_past None e m = absurd cc
        from_past (Some p) e m = record {
          state = record { block = w.block; passed = p };
          is = ap (λ (q : Passed). state_with w.block q) (same_Some (on p) w.passed m);
          picks = record {
            variant = f.variant;
            there = f.there;
            loose = f.loose;
            past = e;
            leads = f.leads;
            pays = f.pays;
          };
        }
          where
            state_with : ℕ → Passed → WalkState
            state_with b q = record { block = b; passed = q }

    -- ---- labels

    no_worse_moved : (u v : WalkState) → is_no_worse u v ≡ true → is_no_worse (state_on u) (state_on v) ≡ true
    no_worse_moved u v n =
        let s : AreSame u v = are_same u v n in
        no_worse_of (state_on u) (state_on v) (record {
          block = s.block;
          totals = ap (higher by) s.totals;
          notes = s.notes;
          bound = over_less bound u.passed.bound v.passed.bound by s.bound;
        })

    -- ---- labels of the walk, moved

    module _ (first : WalkState) where
      run_moved : (ms : List ℕ) (v : WalkState) (c : ℤ) → Run (walk_meaning doc top first) ms v c →
          Run (walk_meaning doc (top +ℤ by) (state_on first)) ms (state_on v) c
      run_moved [] v c (e, z) = (ap state_on e, z)
      run_moved (m ∷ ms) v c (u, (n, k, (run, f, sum))) =
          (state_on u, (n, k, (run_moved ms u n run, picks_moved u m v k f, sum)))

      record IsRunOn (ms : List ℕ) (w : WalkState) (c : ℤ) : Type 0 where
        state : WalkState
        is : state_on state ≡ w
        run : Run (walk_meaning doc top first) ms state c

      run_back : (ms : List ℕ) (w : WalkState) (c : ℤ) → Run (walk_meaning doc (top +ℤ by) (state_on first)) ms w c →
          IsRunOn ms w c
      run_back [] w c (e, z) = record { state = first; is = sym e; run = (refl, z) }
      run_back (m ∷ ms) w c (u, (n, k, (run, f, sum))) = more (run_back ms u n run)
        where
          more : IsRunOn ms u n → IsRunOn (m ∷ ms) w c
          more r =
              let b : IsPickOn r.state m w k = picks_back r.state m w k
              (subst (λ (x : WalkState). Picks doc (top +ℤ by) x m w k) (sym r.is) f) in
              record { state = b.state; is = b.is; run = (r.state, (n, k, (r.run, b.picks, sum))) }

      module _ (es : List (Entry WalkState ℕ)) (all : HasLabels (walk_meaning doc top first) es) where
        -- the labels, moved, are those of the moved walk
        labels_moved : HasLabels (walk_meaning doc (top +ℤ by) (state_on first)) (map entry_on es)
        labels_moved = record { labels = labels; covered = covered }
          where
            labels : (e : Entry WalkState ℕ) → Contains (map entry_on es) e →
                IsLabel (walk_meaning doc (top +ℤ by) (state_on first)) (map entry_on es) e
            labels e c =
                let o : HasOrigin entry_on es e =
                origin_of entry_on es e (contains_among (map entry_on es) e c) in
                let l = all.labels o.origin (among_contains es o.origin o.among) in
                subst (IsLabel (walk_meaning doc (top +ℤ by) (state_on first)) (map entry_on es)) o.is
                (record {
                  moves = l.moves;
                  run_of = run_of_mapped state_on es o.origin l.moves l.run_of;
                  run = run_moved l.moves o.origin.state o.origin.cost l.run;
                })

            covered : (r : Reached WalkState ℕ) → IsRun (walk_meaning doc (top +ℤ by) (state_on first)) r →
                Covered (walk_meaning doc (top +ℤ by) (state_on first)) (map entry_on es) r
            covered r run =
                let l : IsRunOn r.moves r.state r.cost = run_back r.moves r.state r.cost run in
                let w = all.covered (record { moves = r.moves; state = l.state; cost = r.cost }) l.run in
                record {
                  entry = entry_on w.entry;
                  moves = w.moves;
                  among = among_contains (map entry_on es) (entry_on w.entry)
                      (among_map entry_on es w.entry (contains_among es w.entry w.among));
                  run_of = run_of_mapped state_on es w.entry w.moves w.run_of;
                  better = record {
                    no_worse = subst (λ (x : WalkState). is_no_worse (state_on w.entry.state) x ≡ true) l.is
                        (no_worse_moved w.entry.state l.state w.better.no_worse);
                    undercuts = w.better.undercuts;
                  };
                }

        -- ---- the ends from the labels

        from_moved : (c : Candidate) → IsFromLabel doc top es c →
            IsFromLabel doc (top +ℤ by) (map entry_on es) (end_on c)
        from_moved c l = record {
          entry = entry_on l.entry;
          picks = l.picks;
          pick = l.pick;
          variant = l.variant;
          listed = among_contains (map entry_on es) (entry_on l.entry)
              (among_map entry_on es l.entry (contains_among es l.entry l.listed));
          run = run_of_mapped state_on es l.entry l.picks l.run;
          there = l.there;
          loose = l.loose;
          along = subst (IsAmong (end_on c))
              (sym (ends_moved (reverse (l.pick ∷ l.picks)) (l.entry.cost +ℤ pos l.variant.demerits)
              (place (picked_front doc.blocks l.entry.state.block) 0 0) l.entry.state.passed
              (picked_stretch doc.blocks l.entry.state.block l.pick)))
              (among_map end_on _ c l.along);
        }

        record IsEndOn (c : Candidate) : Type 0 where
          end : Candidate
          is : end_on end ≡ c
          from : IsFromLabel doc top es end

        from_back : (c : Candidate) → IsFromLabel doc (top +ℤ by) (map entry_on es) c → IsEndOn c
        from_back c l =
            let o : HasOrigin entry_on es l.entry =
            origin_of entry_on es l.entry
            (contains_among (map entry_on es) l.entry l.listed) in
            from_origin o.origin (among_contains es o.origin o.among) o.is
          where
            from_origin : (e : Entry WalkState ℕ) → Contains es e → entry_on e ≡ l.entry → IsEndOn c
            from_origin e listed is =
                let own = all.labels e listed in
                let run : RunOf (map entry_on es) (entry_on e) l.picks =
                subst (λ (x : Entry WalkState ℕ). RunOf (map entry_on es) x l.picks) (sym is) l.run in
                let same : own.moves ≡ l.picks =
                one_run (map entry_on es) (entry_on e) own.moves l.picks
                (run_of_mapped state_on es e own.moves own.run_of) run in
                let along : IsAmong c (ends_along doc (top +ℤ by) (reverse (l.pick ∷ l.picks))
                (e.cost +ℤ pos l.variant.demerits) (place (picked_front doc.blocks e.state.block) 0 0)
                (on e.state.passed) (picked_stretch doc.blocks e.state.block l.pick)) =
                subst (λ (x : Entry WalkState ℕ). IsAmong c (ends_along doc (top +ℤ by) (reverse (l.pick ∷ l.picks))
                (x.cost +ℤ pos l.variant.demerits) (place (picked_front doc.blocks x.state.block) 0 0) x.state.passed
                (picked_stretch doc.blocks x.state.block l.pick))) (sym is) l.along in
                let ends = ends_along doc top (reverse (l.pick ∷ l.picks)) (e.cost +ℤ pos l.variant.demerits)
                (place (picked_front doc.blocks e.state.block) 0 0) e.state.passed
                (picked_stretch doc.blocks e.state.block l.pick) in
                let o : HasOrigin end_on ends c = origin_of end_on ends c
                (subst (IsAmong c) (ends_moved (reverse (l.pick ∷ l.picks)) (e.cost +ℤ pos l.variant.demerits)
                (place (picked_front doc.blocks e.state.block) 0 0) e.state.passed
                (picked_stretch doc.blocks e.state.block l.pick)) along) in
                record {
                  end = o.origin;
                  is = o.is;
                  from = record {
                    entry = e;
                    picks = l.picks;
                    pick = l.pick;
                    variant = l.variant;
                    listed = listed;
                    run = subst (RunOf es e) same own.run_of;
                    there = subst
                        (λ (x : Entry WalkState ℕ).
                        slice_get (variants_at doc.blocks x.state.block) l.pick ≡ Some l.variant) (sym is) l.there;
                    loose = l.loose;
                    along = o.among;
                  };
                }

-- ---- in a greater room

-- along a stretch that is passed the ends are those in each greater room
ends_same : (doc : Document) (top high : ℤ) → top ≤ℤ high → (picks : List ℕ) (demerits : ℤ) (behind : Place)
    (p q : Passed) (xs : List FlatItem) → pass_items doc p xs ≡ Some q → fits q.bound top ≡ true →
    ends_along doc high picks demerits behind p xs ≡ ends_along doc top picks demerits behind p xs
ends_same doc top high up picks demerits behind p q [] e f = refl
ends_same doc top high up picks demerits behind p q (x ∷ xs) e f =
    ap (λ (cs : List Candidate). end_here doc picks demerits x.place p ++ cs)
    (either (pass_item doc p x) e (λ s h. ends_same doc top high up picks demerits behind s q xs h f))
  where
    later : ℤ → Option Passed → List Candidate
    later height o = option_map_or
        (λ (s : Passed). if fits s.bound height then ends_along doc height picks demerits behind s xs else []) o []

    either : (o : Option Passed) → option_map_or (λ (s : Passed). pass_items doc s xs) o None ≡ Some q →
        ((s : Passed) → pass_items doc s xs ≡ Some q →
        ends_along doc high picks demerits behind s xs ≡ ends_along doc top picks demerits behind s xs) →
        later high o ≡ later top o
    either None h more = absurd cc
    either (Some s) h more =
        let low : fits s.bound top ≡ true = items_fit doc top s q xs h f in
        if_true (fits s.bound high) (ends_along doc high picks demerits behind s xs) []
        (fits_more s.bound top high up low)
        ∙ (more s h ∙ sym (if_true (fits s.bound top) (ends_along doc top picks demerits behind s xs) [] low))

-- what is usable in a room is so in each greater one
usable_more : (style : StyleValue) (top high : ℤ) (p : Passed) → top ≤ℤ high → is_usable style top p ≡ true →
    is_usable style high p ≡ true
usable_more style top high p up u =
    let two = both_of (fits p.bound top) (int_le (least_room style p) top) u in
    both (fits p.bound high) (int_le (least_room style p) high) (fits_more p.bound top high up two.0)
    (int_le_of (least_room style p) high (int_le_trans (least_room style p) top high
    (le_int (least_room style p) top two.1) up))

-- candidates that suffice up to a room suffice up to a lesser one
fewer_rooms : (doc : Document) (from : Place) (top high : ℤ) (cs : List Candidate) → top ≤ℤ high →
    AreCandidates doc from high cs → AreCandidates doc from top cs
fewer_rooms doc from top high cs up are = record {
  sound = are.sound;
  whole = λ c is u. are.whole c is (usable_more doc.style top high c.passed up u);
}

-- ---- all of it

module _ (doc : Document) (from : Place) (top by : ℤ) (bound : Option ℤ) (base : State) (start : WalkState)
    (begun : IsStart doc top from start) (is : IsMoved by bound (state_of base) start) where
  above : top ≤ℤ (top +ℤ by)
  above = let u = is.up in omega (arith, ints, u)

  passes : (pass_items doc nothing (first_items doc.blocks from) ≡ Some start.passed)
      × (fits start.passed.bound top ≡ true)
  passes = past_parts doc top nothing start.passed (first_items doc.blocks from) begun.past

  room : fits bound (top +ℤ by) ≡ true
  room = fits_more bound top (top +ℤ by) above
      (fits_less bound (over bound by (state_of base).passed.bound) top
      (over_less bound None (state_of base).passed.bound by refl)
      (subst (λ (p : Passed). fits p.bound top ≡ true) is.passed passes.1))

  begun_above : IsStart doc (top +ℤ by) from start
  begun_above = record {
    block = begun.block;
    past = past_of doc (top +ℤ by) nothing start.passed (first_items doc.blocks from) passes.0
        (fits_more start.passed.bound top (top +ℤ by) above passes.1);
  }

  same_first : first_ends doc (top +ℤ by) from ≡ first_ends doc top from
  same_first = ends_same doc top (top +ℤ by) above [] (pos 0) (place (first_front doc.blocks from) 0 0) nothing
      start.passed (first_items doc.blocks from) passes.0 passes.1

  start_is : moved_state by bound (state_of base) ≡ start
  start_is = make base.block start.block (moved by bound (state_of base).passed) start.passed (sym is.block)
      (sym is.passed)
    where
      make : (m n : ℕ) (p q : Passed) → m ≡ n → p ≡ q →
          ◌≡◌ {A = WalkState} (record { block = m; passed = p }) (record { block = n; passed = q })
      make m n p q e f = rw (e, f) refl

  module _ (cs : List Candidate) (all : Collects doc top base [] cs) where
    abbrev entries : List (Entry WalkState ℕ)
    entries = map (with_state (moved_state by bound)) (entries_of all.es)

    labels : HasLabels (walk_meaning doc top (state_of base)) (entries_of all.es)
    labels = lifted doc top base all.es all.table

    collected : AreCollected doc (top +ℤ by) from entries (first_ends doc top from ++ map (moved_candidate by bound) cs)
    collected = record { each = each; first = first; labels = further }
      where
        from_mapped : (c : Candidate) → IsAmong c (map (moved_candidate by bound) cs) →
            IsFromLabel doc (top +ℤ by) entries c
        from_mapped c a =
            let o : HasOrigin (moved_candidate by bound) cs c = origin_of (moved_candidate by bound) cs c a in
            subst (IsFromLabel doc (top +ℤ by) entries) o.is
            (from_moved doc by bound top room (state_of base) (entries_of all.es) labels o.origin
            (of_label o.origin (all.ends.each o.origin o.among)))
          where
            of_label : (d : Candidate) → (⊥ ⊎ IsOfLabels doc top all.es all.es d) →
                IsFromLabel doc top (entries_of all.es) d
            of_label d (inl n) = absurd n
            of_label d (inr l) = from_label doc top base all.es all.table d l

        each : (c : Candidate) → IsAmong c (first_ends doc top from ++ map (moved_candidate by bound) cs) →
            (IsAmong c (first_ends doc (top +ℤ by) from)) ⊎ (IsFromLabel doc (top +ℤ by) entries c)
        each c a = elim (among_cases (first_ends doc top from) (map (moved_candidate by bound) cs) c a) [
          | inl p ↦ inl (subst (IsAmong c) (sym same_first) p)
          | inr q ↦ inr (from_mapped c q)
        ]

        first : (c : Candidate) → IsAmong c (first_ends doc (top +ℤ by) from) →
            IsAmong c (first_ends doc top from ++ map (moved_candidate by bound) cs)
        first c a = among_left (first_ends doc top from) (map (moved_candidate by bound) cs) c
            (subst (IsAmong c) same_first a)

        further : (c : Candidate) → IsFromLabel doc (top +ℤ by) entries c →
            IsAmong c (first_ends doc top from ++ map (moved_candidate by bound) cs)
        further c l =
            let e = from_back doc by bound top room (state_of base) (entries_of all.es) labels c l in
            among_right (first_ends doc top from) (map (moved_candidate by bound) cs) c
            (subst (λ (d : Candidate). IsAmong d (map (moved_candidate by bound) cs)) e.is
            (among_map (moved_candidate by bound) cs e.end
            (all.ends.labels e.end (to_label doc top base all.es all.table e.end e.from))))

-- with the ends along the first stretch from a place those behind the base suffice, moved
abbrev MovedSuffice : Document → Type 0
MovedSuffice doc = (from : Place) (top by : ℤ) (bound : Option ℤ) (base : State) (start : WalkState)
    (cs : List Candidate) → IsPlace doc.blocks from → IsStart doc top from start →
    IsMoved by bound (state_of base) start → Collects doc top base [] cs →
    AreCandidates doc from top (first_ends doc top from ++ map (moved_candidate by bound) cs)

-- the ends along the first stretch stand before them
abbrev MovedApart : Document → Type 0
MovedApart doc = (from : Place) (top by : ℤ) (bound : Option ℤ) (base : State) (start : WalkState)
    (cs : List Candidate) → IsPlace doc.blocks from → IsStart doc top from start →
    IsMoved by bound (state_of base) start → Collects doc top base [] cs →
    AreApart (first_ends doc top from) (map (moved_candidate by bound) cs)

moved_suffice : (doc : Document) → LabelsSuffice doc → MovedSuffice doc
moved_suffice doc law from top by bound base start cs at begun is all =
    let fits = room doc from top by bound base start begun is in
    fewer_rooms doc from top (top +ℤ by) (first_ends doc top from ++ map (moved_candidate by bound) cs)
    (above doc from top by bound base start begun is)
    (law from (top +ℤ by) start (entries doc from top by bound base start begun is cs all)
    (first_ends doc top from ++ map (moved_candidate by bound) cs) at
    (begun_above doc from top by bound base start begun is)
    (subst (λ (u : WalkState).
    HasLabels (walk_meaning doc (top +ℤ by) u) (entries doc from top by bound base start begun is cs all))
    (start_is doc from top by bound base start begun is)
    (labels_moved doc by bound top fits (state_of base) (entries_of all.es)
    (labels doc from top by bound base start begun is cs all)))
    (collected doc from top by bound base start begun is cs all))

moved_apart : (doc : Document) → AllByRecursion IsBlock doc.blocks → MovedApart doc
moved_apart doc blocks from top by bound base start cs at begun is all c d a b =
    let o : HasOrigin (moved_candidate by bound) cs d = origin_of (moved_candidate by bound) cs d b in
    subst (λ (x : Candidate). place_cmp c.to x.to ≡ Less) o.is
    (apart doc top from base (sym is.block ∙ begun.block) blocks at cs all c o.origin a o.among)

pub serve : (doc : Document) → AllByRecursion IsBlock doc.blocks → LabelsSuffice doc → FrontsServe doc
serve doc blocks labels from front by bound cs it at ahead is walk =
    let start = start_of doc (tallest doc.style) from front.start ahead.start in
    record {
      candidates = moved_suffice doc labels from (tallest doc.style) by bound it.base (state_of front.start)
          cs at start is walk.ends;
      apart = moved_apart doc blocks from (tallest doc.style) by bound it.base (state_of front.start)
          cs at start is walk.ends;
    }
