-- The steps by the lines that are listed are the moves of a state.
use Rattle.std.proofs.Common.{◌≡◌, refl, sym, ap, ◌∙◌, subst, ℕ, zero, suc, ◌+◌, ◌≤◌, ◌<◌, inl, inr, List, [], ◌∷◌, ◌++◌, length, arith, Bool, true, false, Some}
use Rattle.std.specs.Prelude.{◌≢◌, ◌⊎◌, ◌==◌, if◌then◌else◌, get_or, nat_le, nat_lt, slice_get, AllPairs, Contains, ℤ, pos, ◌+ℤ◌, ◌*ℤ◌}
use Rattle.std.specs.List.{flat_map, range_with_len}
use Rattle.std.specs.Option.{option_map_or}
use Rattle.std.proofs.lemmas.List.FromFn.{get_or-map-range_with_len, length-map-range_with_len}
use Rattle.std.proofs.lemmas.Option.{slice_get-get_or}
use Rattle.std.proofs.lemmas.Bool.Decides.{nat_tests}
use Rattle.pg_lemmas.proofs.Bools.{by_bool, if_true}
use Rattle.pg_lemmas.proofs.Numbers.{eq_not, less_true, not_less, le_true, true_le}
use Rattle.pg_table.specs.Space.{AreMoves}
use Rattle.pg_table.specs.declared.step.Step.{Step}
use Rattle.pg_hlist.specs.declared.item.HItem.{HItem}
use Rattle.law_lines.specs.declared.rule.LineRule.{LineRule}
use Rattle.law_lines.specs.Lines.{is_line, line_demerits}
use Rattle.law_lines.proofs.LineFacts.{line_within}
use Rattle.law_lines.proofs.Tests.{eq_true}
use Rattle.law_lines.specs.declared.state.LineState.{LineState}
use Rattle.law_lines.specs.BestSpace.{NextBreak, best_meaning, unit}
use Rattle.law_lines.specs.LineSpace.{NextLine, line_meaning, line_state}
use Rattle.pg_lines.specs.declared.ends.LineEnd.{LineEnd}
use Rattle.pg_lines.specs.Ends.{all_ends, end_at, ends_from, ends_on}
use Rattle.pg_lines.specs.Moves.{best_step, ends_at, line_step}
use Rattle.law_places.proofs.Among.{among_cases, Among, among_left, among_right}
use Rattle.law_places.proofs.Members.{among_contains, contains_among}
use Rattle.law_places.proofs.Pairs.{at_among}

-- ---- members

-- ---- what is listed

pub listed_at : (rule : LineRule) (para : List HItem) (k : ℕ) → k ≤ length para →
    ends_at (all_ends rule para) k ≡ ends_from rule para k
listed_at rule para k h =
    let long = length-map-range_with_len (ends_from rule para) 0 (length para + 1) in
    ap (λ o. option_map_or (λ (ends : List LineEnd). ends) o []) (slice_get-get_or (all_ends rule para) k [] (omega (arith, long, h))
    ∙ ap Some (get_or-map-range_with_len (ends_from rule para) 0 (length para + 1) k k [] (omega (arith, h)) (omega arith)))

module _ (rule : LineRule) (para : List HItem) (u : ℕ) where
  abbrev pub the_end : ℕ → LineEnd
  the_end k = record { place = k; demerits = line_demerits rule para u k }

  -- what each listed end is
  pub record IsEnd (k : ℕ) (e : LineEnd) : Type 0 where
    pub stands : is_line rule para u e.place ≡ true
    pub price : e.demerits ≡ line_demerits rule para u e.place
    pub late : k ≤ e.place

  one_end : (k : ℕ) (e : LineEnd) → Among e (end_at rule para u k) → IsEnd k e
  one_end k e a = by (is_line rule para u k) refl a
    where
      by : (b : Bool) → is_line rule para u k ≡ b → Among e (if b then the_end k ∷ [] else []) → IsEnd k e
      by false h m = absurd m
      by true h (inl p) = subst (IsEnd k) p (record { stands = h; price = refl; late = omega arith })
      by true h (inr m) = absurd m

  pub end_on : (k m : ℕ) (e : LineEnd) → Among e (ends_on rule para u k m) → IsEnd k e
  end_on k zero e a = absurd a
  end_on k (suc m) e a = elim (among_cases e (end_at rule para u k) (ends_on rule para u (suc k) m) a) [
    | inl p ↦ one_end k e p
    | inr q ↦ (let r = end_on (suc k) m e q in
        record { stands = r.stands; price = r.price; late = (let l = r.late in omega (arith, l)) })
  ]

  pub on_end : (k m i : ℕ) → k ≤ i → i < k + m → is_line rule para u i ≡ true → Among (the_end i) (ends_on rule para u k m)
  on_end k zero i h l stands = absurd (omega (arith, h, l))
  on_end k (suc m) i h l stands = by (k == i) refl (λ g. on_end (suc k) m i g (omega (arith, l)) stands)
    where
      by : (b : Bool) → (k == i) ≡ b → (suc k ≤ i → Among (the_end i) (ends_on rule para u (suc k) m)) →
          Among (the_end i) (end_at rule para u k ++ ends_on rule para u (suc k) m)
      by true e more =
          let same : k ≡ i = eq_true k i e in
          among_left (the_end i) (end_at rule para u k) (ends_on rule para u (suc k) m)
          (subst (λ (j : ℕ). Among (the_end i) (end_at rule para u j)) (sym same)
          (subst (Among (the_end i)) (sym (if_true (is_line rule para u i) (the_end i ∷ []) [] stands)) (inl refl)))
      by false e more =
          let other = eq_not k i e in
          among_right (the_end i) (end_at rule para u k) (ends_on rule para u (suc k) m)
          (more (behind k i h other))
        where
          behind : (k i : ℕ) → k ≤ i → (k ≡ i → ⊥) → suc k ≤ i
          behind k i h other = by_bool (nat_lt k i) (λ e. less_true k i e)
              (λ e. absurd (other (let l = not_less k i e in omega (arith, h, l))))

  -- ---- steps, at most one an end, each by its place

  module _ {S : Type 0} (step : LineEnd → List (Step S ℕ)) (single : (e : LineEnd) → length (step e) ≤ 1)
      (by_place : (e : LineEnd) (s : Step S ℕ) → Among s (step e) → s.by ≡ e.place) where
    abbrev steps_of : List LineEnd → List (Step S ℕ)
    steps_of ends = flat_map step ends

    pub record IsOf (ends : List LineEnd) (s : Step S ℕ) : Type 0 where
      pub end : LineEnd
      pub among : Among end ends
      pub is : Among s (step end)

    pub of_step : (ends : List LineEnd) (s : Step S ℕ) → Among s (steps_of ends) → IsOf ends s
    of_step [] s a = absurd a
    of_step (e ∷ ends) s a = elim (among_cases s (step e) (steps_of ends) a) [
      | inl p ↦ record { end = e; among = inl refl; is = p }
      | inr q ↦ (let r = of_step ends s q in record { end = r.end; among = inr r.among; is = r.is })
    ]

    pub step_of : (ends : List LineEnd) (e : LineEnd) (s : Step S ℕ) → Among e ends → Among s (step e) →
        Among s (steps_of ends)
    step_of [] e s a m = absurd a
    step_of (f ∷ ends) e s (inl p) m =
        among_left s (step f) (steps_of ends) (subst (λ (x : LineEnd). Among s (step x)) (sym p) m)
    step_of (f ∷ ends) e s (inr a) m = among_right s (step f) (steps_of ends) (step_of ends e s a m)

    abbrev pub Apart : List (Step S ℕ) → Type 0
    Apart = AllPairs (λ s t. s.by ≢ t.by)

    cons : (x : Step S ℕ) (xs : List (Step S ℕ)) → ((s : Step S ℕ) → Among s xs → x.by < s.by) → Apart xs → Apart (x ∷ xs)
    cons x xs less r i zero d lt within = absurd (omega (arith, lt))
    cons x xs less r zero (suc j) d lt within = λ e.
        let l = less (get_or xs j d) (at_among xs j d (omega (arith, within))) in omega (arith, l, e)
    cons x xs less r (suc i) (suc j) d lt within = r i j d (omega (arith, lt)) (omega (arith, within))

    later : (k m : ℕ) (s : Step S ℕ) → Among s (steps_of (ends_on rule para u k m)) → k ≤ s.by
    later k m s a =
        let r = of_step (ends_on rule para u k m) s a in
        let late = (end_on k m r.end r.among).late in
        let b = by_place r.end s r.is in omega (arith, late, b)

    pub once : (k m : ℕ) → Apart (steps_of (ends_on rule para u k m))
    once k zero = λ i j d lt within. absurd (omega (arith, within))
    once k (suc m) = by (is_line rule para u k) (step (the_end k)) refl (single (the_end k)) (once (suc k) m)
      where
        by : (b : Bool) (own : List (Step S ℕ)) → own ≡ step (the_end k) → length own ≤ 1 →
            Apart (steps_of (ends_on rule para u (suc k) m)) →
            Apart (flat_map step ((if b then the_end k ∷ [] else []) ++ ends_on rule para u (suc k) m))
        by false own is few r = r
        by true [] is few r = subst (λ (xs : List (Step S ℕ)). Apart (xs ++ steps_of (ends_on rule para u (suc k) m))) is r
        by true (x ∷ []) is few r =
            subst (λ (xs : List (Step S ℕ)). Apart (xs ++ steps_of (ends_on rule para u (suc k) m))) is
            (cons x (steps_of (ends_on rule para u (suc k) m)) (λ s a. (let l = later (suc k) m s a in
            let b = by_place (the_end k) x (subst (Among x) is (inl refl)) in omega (arith, l, b))) r)
        by true (x ∷ y ∷ xs) is few r = absurd (omega (arith, few))

step_same : {S : Type 0} (v w : S) (k : ℕ) (c d : ℤ) → v ≡ w → c ≡ d →
    ◌≡◌ {A = Step S ℕ} (record { to = v; by = k; cost = c }) (record { to = w; by = k; cost = d })
step_same v w k c d p q = rw (p, q) refl

-- ---- where places alone are states

best_single : (e : LineEnd) → length (best_step e) ≤ 1
best_single e = omega arith

best_by : (e : LineEnd) (s : Step ℕ ℕ) → Among s (best_step e) → s.by ≡ e.place
best_by e s (inl p) = sym (ap (λ (t : Step ℕ ℕ). t.by) p)
best_by e s (inr m) = absurd m

pub best_moves : (rule : LineRule) (para : List HItem) (u : ℕ) →
    AreMoves (best_meaning rule para) u (flat_map best_step (ends_from rule para u))
best_moves rule para u = record {
  sound = λ s c. (let r = of_step rule para u best_step best_single best_by (ends_from rule para u) s
      (contains_among (flat_map best_step (ends_from rule para u)) s c) in
      sound s r.end (end_on rule para u 0 (length para + 1) r.end r.among) r.is);
  whole = λ k v c f. among_contains (flat_map best_step (ends_from rule para u)) (record { to = v; by = k; cost = c })
      (subst (λ (s : Step ℕ ℕ). Among s (flat_map best_step (ends_from rule para u)))
      (step_same k v k ((unit *ℤ line_demerits rule para u k) +ℤ pos 1) c (sym f.to) (sym f.price))
      (step_of rule para u best_step best_single best_by (ends_from rule para u) (the_end rule para u k)
      (record { to = k; by = k; cost = (unit *ℤ line_demerits rule para u k) +ℤ pos 1 })
      (on_end rule para u 0 (length para + 1) k (omega arith)
      (let w = line_within rule para u k f.stands in omega (arith, w)) f.stands) (inl refl)));
  once = once rule para u best_step best_single best_by 0 (length para + 1);
}
  where
    sound : (s : Step ℕ ℕ) (e : LineEnd) → IsEnd rule para u 0 e → Among s (best_step e) →
        NextBreak rule para u s.by s.to s.cost
    sound s e r (inl p) = subst (λ (t : Step ℕ ℕ). NextBreak rule para u t.by t.to t.cost) p
        (record { stands = r.stands; to = refl; price = ap (λ (z : ℤ). (unit *ℤ z) +ℤ pos 1) r.price })
    sound s e r (inr m) = absurd m

-- ---- where the number of lines is kept as well

module _ (low : ℕ → ℕ) (most lines : ℕ) where
  line_single : (e : LineEnd) → length (line_step low most lines e) ≤ 1
  line_single e = by (nat_le (lines + 1 + low e.place) most) (record {
    to = line_state e.place (lines + 1);
    by = e.place;
    cost = e.demerits;
  })
    where
      by : (b : Bool) (s : Step LineState ℕ) → length {A = Step LineState ℕ} (if b then s ∷ [] else []) ≤ 1
      by true s = omega arith
      by false s = omega arith

  record IsLineStep (e : LineEnd) (s : Step LineState ℕ) : Type 0 where
    fits : nat_le (lines + 1 + low e.place) most ≡ true
    is : record { to = line_state e.place (lines + 1); by = e.place; cost = e.demerits } ≡ s

  line_step_is : (e : LineEnd) (s : Step LineState ℕ) → Among s (line_step low most lines e) → IsLineStep e s
  line_step_is e s a = by (nat_le (lines + 1 + low e.place) most) refl a
    where
      by : (b : Bool) → nat_le (lines + 1 + low e.place) most ≡ b → Among s (if b then (record {
        to = line_state e.place (lines + 1);
        by = e.place;
        cost = e.demerits;
      }) ∷ [] else []) → IsLineStep e s
      by false h m = absurd m
      by true h (inl p) = record { fits = h; is = p }
      by true h (inr m) = absurd m

  line_by : (e : LineEnd) (s : Step LineState ℕ) → Among s (line_step low most lines e) → s.by ≡ e.place
  line_by e s a = sym (ap (λ (t : Step LineState ℕ). t.by) (line_step_is e s a).is)

pub line_moves : (rule : LineRule) (para : List HItem) (low : ℕ → ℕ) (most : ℕ) (u : LineState) →
    AreMoves (line_meaning rule para low most) u (flat_map (line_step low most u.lines) (ends_from rule para u.index))
line_moves rule para low most u = record {
  sound = λ s c. (let r = of_step rule para u.index step (line_single low most u.lines) (line_by low most u.lines)
      (ends_from rule para u.index) s (contains_among (flat_map step (ends_from rule para u.index)) s c) in
      sound s r.end (end_on rule para u.index 0 (length para + 1) r.end r.among) (line_step_is low most u.lines r.end s r.is));
  whole = λ k v c f. among_contains (flat_map step (ends_from rule para u.index)) (record { to = v; by = k; cost = c })
      (subst (λ (s : Step LineState ℕ). Among s (flat_map step (ends_from rule para u.index)))
      (step_same (line_state k (u.lines + 1)) v k (line_demerits rule para u.index k) c (sym f.to) (sym f.price))
      (step_of rule para u.index step (line_single low most u.lines) (line_by low most u.lines)
      (ends_from rule para u.index) (the_end rule para u.index k)
      (record { to = line_state k (u.lines + 1); by = k; cost = line_demerits rule para u.index k })
      (on_end rule para u.index 0 (length para + 1) k (omega arith)
      (let w = line_within rule para u.index k f.stands in omega (arith, w)) f.stands)
      (subst (Among (record { to = line_state k (u.lines + 1); by = k; cost = line_demerits rule para u.index k }))
      (sym (if_true (nat_le (u.lines + 1 + low k) most) _ _ (true_le (u.lines + 1 + low k) most f.fits))) (inl refl))));
  once = once rule para u.index step (line_single low most u.lines) (line_by low most u.lines) 0 (length para + 1);
}
  where
    step : LineEnd → List (Step LineState ℕ)
    step = line_step low most u.lines

    sound : (s : Step LineState ℕ) (e : LineEnd) → IsEnd rule para u.index 0 e → IsLineStep low most u.lines e s →
        NextLine rule para low most u s.by s.to s.cost
    sound s e r p = subst (λ (t : Step LineState ℕ). NextLine rule para low most u t.by t.to t.cost) p.is
        (record {
          stands = r.stands;
          fits = le_true (u.lines + 1 + low e.place) most p.fits;
          to = refl;
          price = r.price;
        })
