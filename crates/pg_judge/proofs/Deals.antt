-- The verdict on the floats that a column adds, where counts of 16 bits were asked.
use Rattle.std.proofs.Common.{◌≡◌, refl, sym, ap, ◌∙◌, subst, ℕ, zero, suc, ◌+◌, ◌-◌, ◌<◌, ◌≤◌, ◌^◌, arith, List, [], ◌∷◌, length, Bool, true, false, Option, Some, None, ◌⊎◌, inl, inr, ℤ, pos}
use Rattle.std.specs.Prelude.{◌==◌, ◌&&◌, ◌||◌, nat_le, nat_lt, slice_get, slice_index, Result, Ok, Err}
use Rattle.std.specs.List.{AllByRecursion, list_all, range_with_len}
use Rattle.std.proofs.lemmas.Bool.{eqb-true, leb-true, le-leb}
use Rattle.std.proofs.lemmas.List.{length-map}
use Rattle.pg_list.specs.Shapes.{IsBlock}
use Rattle.pg_list.specs.Flat.{flat}
use Rattle.pg_plan.specs.declared.pages.PageMove.{PageMove}
use Rattle.pg_rules.specs.ColumnRules.{has_counts, has_dealable}
use Rattle.pg_rules.specs.Cost.{float_demerits}
use Rattle.pg_rules.specs.Floats.{called, distance_table, entry, float_numbers, floats, has_all, has_all_from, numbered, plus_counts, sizes_of}
use Rattle.pg_rules.specs.History.{context, is_called, next_column, placed_after, placed_of, with_wide}
use Rattle.pg_rules.specs.Legal.{added, deals_floats, distance, has_callouts, has_wide_counts, is_near}
use Rattle.pg_rules.specs.Room.{Document}
use Rattle.law_columns.proofs.Waiting.{entry_plus, placed_more, slot_below}
use Rattle.law_places.proofs.Among.{all_same}
use Rattle.pg_lemmas.proofs.Bools.{both_of, both_ways, or_cases}
use Rattle.pg_lemmas.proofs.Numbers.{eq_yes}
use Rattle.pg_judge.specs.Added.{added_by}
use Rattle.pg_floats.specs.Counts.{cap, capped}
use Rattle.pg_judge.specs.Moves.{page_ends}
use Rattle.pg_judge.specs.Waits.{is_slot_called, price_of, prices_below, slot_price}
use Rattle.pg_floats.proofs.Capped.{AreFew, entry_capped}
use Rattle.pg_judge.proofs.Distances.{Chained, wait_is}
use Rattle.pg_judge.proofs.LeastRules.{added_rule}
use Rattle.pg_judge.proofs.Priced.{ArePriced, all_flat, all_numbered, all_priced, one_priced, prices_same, slot_priced}

slot_has : (k : ℕ) (lists : List (List ℤ)) (before counts : List ℕ) → AreFew lists →
    has_all_from k lists before counts ≡ true → (slot : ℕ) → slot < length lists →
    (entry counts (k + slot) ≡ 0) ⊎ (entry before (k + slot) + entry counts (k + slot) ≤ 2 ^ 12)
slot_has k [] before counts few e slot h = absurd (omega (arith, h))
slot_has k (sizes ∷ lists) before counts few e zero h =
    let t = both_of ((entry counts k == 0) || nat_le (entry before k + entry counts k) (length sizes)) _ e in
    let z : k ≡ k + 0 = omega arith in
    subst (λ (i : ℕ). (entry counts i ≡ 0) ⊎ (entry before i + entry counts i ≤ 2 ^ 12)) z
    (elim (or_cases (entry counts k == 0) _ t.0) [
      | inl c ↦ inl (eqb-true _ _ c)
      | inr c ↦ inr (let l : entry before k + entry counts k ≤ length sizes = leb-true _ _ c in
          let f : length sizes ≤ 2 ^ 12 = few.0 in omega (arith, l, f))
    ])
slot_has k (sizes ∷ lists) before counts few e (suc slot) h =
    let t = both_of ((entry counts k == 0) || nat_le (entry before k + entry counts k) (length sizes)) _ e in
    let z : k + 1 + slot ≡ k + suc slot = omega arith in
    subst (λ (i : ℕ). (entry counts i ≡ 0) ⊎ (entry before i + entry counts i ≤ 2 ^ 12)) z
    (slot_has (k + 1) lists before counts few.1 t.1 slot (omega (arith, h)))

-- no floats of a slot, or few enough for 16 bits
abbrev pub IsExact : ℕ → ℕ → Type 0
IsExact a b = (b ≡ a) ⊎ (b ≤ 2 ^ 12)

called_test : (a b c : ℕ) → a ≤ b → IsExact a b →
    (nat_le (cap b) (cap a) || nat_le (cap b) c) ≡ ((b - a == 0) || nat_le (a + (b - a)) c)
called_test a b c h (inl e) =
    let s : nat_le (cap b) (cap a) ≡ true = le-leb _ _ (omega (arith, e)) in
    let t : (b - a == 0) ≡ true = eq_yes _ _ (omega (arith, e)) in
    rw (s, t) refl
called_test a b c h (inr few) =
    let p : cap b ≡ b = omega arith in
    let q : cap a ≡ a = omega (arith, h, few) in
    let r : a + (b - a) ≡ b = omega (arith, h) in
    let s : nat_le b a ≡ (b - a == 0) = both_ways _ _
    (λ e. eq_yes _ _ (let l : b ≤ a = leb-true _ _ e in omega (arith, l)))
    (λ e. le-leb b a (let l : b - a ≡ 0 = eqb-true _ _ e in omega (arith, l))) in
    rw (p, q, r, s) refl

-- what floats pay by this cost, or the least of rules 7 to 10 by these tests
abbrev IsAdded : Bool → Bool → Bool → Bool → ℤ → Result ℕ ℕ → Type 0
IsAdded counts dealt called near cost (Ok price) = (added_rule counts dealt called near ≡ None) × (pos price ≡ cost)
IsAdded counts dealt called near cost (Err rule) = added_rule counts dealt called near ≡ Some rule

too_far : (counts dealt called near : Bool) (cost : ℤ) (c d k : Bool) → c ≡ counts → d ≡ dealt →
    (d ≡ true → k ≡ called) → (d ≡ true → near ≡ false) → IsAdded counts dealt called near cost (added_by c d k None)
too_far counts dealt called near cost false d k e f g h = rw (sym e) refl
too_far counts dealt called near cost true false k e f g h = rw (sym e, sym f) refl
too_far counts dealt called near cost true true false e f g h = rw (sym e, sym f, sym (g refl)) refl
too_far counts dealt called near cost true true true e f g h = rw (sym e, sym f, sym (g refl), h refl) refl

near_enough : (counts dealt called near : Bool) (cost : ℤ) (price : ℕ) (c d k : Bool) → c ≡ counts → d ≡ dealt →
    (d ≡ true → k ≡ called) → (d ≡ true → (near ≡ true) × (pos price ≡ cost)) →
    IsAdded counts dealt called near cost (added_by c d k (Some price))
near_enough counts dealt called near cost price false d k e f g h = rw (sym e) refl
near_enough counts dealt called near cost price true false k e f g h = rw (sym e, sym f) refl
near_enough counts dealt called near cost price true true false e f g h = rw (sym e, sym f, sym (g refl)) refl
near_enough counts dealt called near cost price true true true e f g h =
    (rw (sym e, sym f, sym (g refl), (h refl).0) refl, (h refl).1)

module _ (doc : Document) (all : AllByRecursion IsBlock doc.blocks) (few : AreFew (floats doc.blocks doc.style))
    (m : PageMove) (ms : List PageMove) where
  abbrev slot_count : ℕ
  slot_count = length (float_numbers doc.style)

  abbrev placed : List ℕ
  placed = placed_of doc.style ms

  abbrev after : List ℕ
  after = placed_after doc.style placed m

  many : length (floats doc.blocks doc.style) ≡ slot_count
  many = length-map (float_numbers doc.style) (λ number. sizes_of number (flat doc.blocks []))

  exact : deals_floats doc placed m (context doc m ms) ≡ true → (slot : ℕ) → slot < slot_count →
      IsExact (entry placed slot) (entry after slot)
  exact d slot h =
      let t = both_of (has_all (floats doc.blocks doc.style) placed m.wide) (has_dealable (context doc m ms)) d in
      let u = both_of (has_all (floats doc.blocks doc.style) (with_wide doc.style placed m) m.column.top) _ t.1 in
      let long : slot < length (floats doc.blocks doc.style) = omega (arith, many, h) in
      let a = slot_has 0 (floats doc.blocks doc.style) placed m.wide few t.0 slot long in
      let b = slot_has 0 (floats doc.blocks doc.style) (with_wide doc.style placed m) m.column.top few u.0 slot long in
      let c = slot_has 0 (floats doc.blocks doc.style)
      (plus_counts doc.style (with_wide doc.style placed m) m.column.top) m.column.bottom few u.1 slot long in
      let z : 0 + slot ≡ slot = omega arith in
      let w = entry_plus doc.style placed m.wide slot h in
      let x = entry_plus doc.style (with_wide doc.style placed m) m.column.top slot h in
      let y = entry_plus doc.style (plus_counts doc.style (with_wide doc.style placed m) m.column.top) m.column.bottom
      slot h in
      by (entry placed slot) (entry m.wide slot) (entry m.column.top slot) (entry m.column.bottom slot) _ _ _ w x y
      (subst (λ (i : ℕ). (entry m.wide i ≡ 0) ⊎ (entry placed i + entry m.wide i ≤ 2 ^ 12)) z a)
      (subst (λ (i : ℕ). (entry m.column.top i ≡ 0)
      ⊎ (entry (with_wide doc.style placed m) i + entry m.column.top i ≤ 2 ^ 12)) z b)
      (subst (λ (i : ℕ). (entry m.column.bottom i ≡ 0)
      ⊎ (entry (plus_counts doc.style (with_wide doc.style placed m) m.column.top) i
      + entry m.column.bottom i ≤ 2 ^ 12)) z c)
    where
      by : (p w t u before below behind : ℕ) → before ≡ p + w → below ≡ before + t → behind ≡ below + u →
          (w ≡ 0) ⊎ (p + w ≤ 2 ^ 12) → (t ≡ 0) ⊎ (before + t ≤ 2 ^ 12) → (u ≡ 0) ⊎ (below + u ≤ 2 ^ 12) → IsExact p behind
      by p w t u before below behind e f g a b (inr c) = inr (omega (arith, g, c))
      by p w t u before below behind e f g a (inr b) (inl c) = inr (omega (arith, f, g, b, c))
      by p w t u before below behind e f g (inr a) (inl b) (inl c) = inr (omega (arith, e, f, g, a, b, c))
      by p w t u before below behind e f g (inl a) (inl b) (inl c) = inl (omega (arith, e, f, g, a, b, c))

  abbrev between : ℕ → List (ℕ × ℕ)
  between slot = numbered slot (entry placed slot) (entry after slot - entry placed slot)

  pub called_is : deals_floats doc placed m (context doc m ms) ≡ true →
      list_all (is_slot_called doc m.column.to (capped placed) (capped after)) (range_with_len 0 slot_count)
      ≡ has_callouts doc placed m
  called_is d = all_same (is_slot_called doc m.column.to (capped placed) (capped after))
      (λ (slot : ℕ). list_all (is_called doc m.column.to) (between slot)) (range_with_len 0 slot_count)
      (λ slot among. one slot (let b = slot_below 0 slot_count slot among in omega (arith, b.1)))
      ∙ sym (all_flat (is_called doc m.column.to) between (range_with_len 0 slot_count))
    where
      one : (slot : ℕ) → slot < slot_count →
          is_slot_called doc m.column.to (capped placed) (capped after) slot
          ≡ list_all (is_called doc m.column.to) (between slot)
      one slot h =
          ap (λ (n : ℕ). nat_le n (entry (capped placed) slot)
          || nat_le n (entry (called doc.blocks doc.style m.column.to) slot)) (entry_capped after slot)
          ∙ (ap (λ (n : ℕ). nat_le (cap (entry after slot)) n
          || nat_le (cap (entry after slot)) (entry (called doc.blocks doc.style m.column.to) slot))
          (entry_capped placed slot)
          ∙ (called_test (entry placed slot) (entry after slot)
          (entry (called doc.blocks doc.style m.column.to) slot) (placed_more doc.style placed m slot h) (exact d slot h)
          ∙ sym (all_numbered (entry (called doc.blocks doc.style m.column.to)) slot (entry placed slot)
          (entry after slot - entry placed slot))))

  abbrev pub is_close : ℕ × ℕ → Bool
  is_close float = nat_lt (distance doc m ms float) (length (distance_table doc.style float.0))

  abbrev pub pays : ℕ × ℕ → ℕ
  pays float = slice_index (distance_table doc.style float.0) (distance doc m ms float)

  pub priced_is : deals_floats doc placed m (context doc m ms) ≡ true → Chained doc all ms →
      ArePriced is_close pays (added doc placed m)
      (prices_below (slot_price doc (page_ends doc.style ms) (capped placed) (capped after)) slot_count)
  priced_is d k =
      subst (ArePriced is_close pays (added doc placed m))
      (prices_same (slot_price doc (page_ends doc.style ms) placed after)
      (slot_price doc (page_ends doc.style ms) (capped placed) (capped after)) slot_count (λ slot h. sym (one slot h)))
      (all_priced is_close pays between (slot_price doc (page_ends doc.style ms) placed after) slot_count
      (λ slot h. slot_priced is_close pays (price_of doc (page_ends doc.style ms)) each slot (entry placed slot)
      (entry after slot - entry placed slot)))
    where
      each : (float : ℕ × ℕ) → ArePriced is_close pays (float ∷ []) (price_of doc (page_ends doc.style ms) float)
      each float = subst (ArePriced is_close pays (float ∷ []))
          (ap (slice_get (distance_table doc.style float.0)) (sym (wait_is doc all m ms float k)))
          (one_priced (distance_table doc.style) (distance doc m ms) float)

      by : (price : ℕ → ℕ → Option ℕ) (a b : ℕ) → a ≤ b → IsExact a b →
          prices_below (price (cap a)) (cap b - cap a) ≡ prices_below (price a) (b - a)
      by price a b h (inl e) =
          let p : cap b - cap a ≡ 0 = omega (arith, e) in
          let q : b - a ≡ 0 = omega (arith, e) in
          ap (prices_below (price (cap a))) p ∙ sym (ap (prices_below (price a)) q)
      by price a b h (inr f) =
          let p : cap a ≡ a = omega (arith, h, f) in
          let q : cap b ≡ b = omega (arith, f) in
          rw (p, q) refl

      one : (slot : ℕ) → slot < slot_count →
          slot_price doc (page_ends doc.style ms) (capped placed) (capped after) slot
          ≡ slot_price doc (page_ends doc.style ms) placed after slot
      one slot h =
          ap (λ (n : ℕ). prices_below (λ (i : ℕ). price_of doc (page_ends doc.style ms) (slot, n + i))
          (entry (capped after) slot - n)) (entry_capped placed slot)
          ∙ (ap (λ (n : ℕ). prices_below (λ (i : ℕ). price_of doc (page_ends doc.style ms)
          (slot, cap (entry placed slot) + i)) (n - cap (entry placed slot))) (entry_capped after slot)
          ∙ by (λ (a : ℕ) (i : ℕ). price_of doc (page_ends doc.style ms) (slot, a + i)) (entry placed slot)
          (entry after slot) (placed_more doc.style placed m slot h) (exact d slot h))

  -- what the floats pay, or the least of rules 7 to 10
  abbrev pub AreAdded : Result ℕ ℕ → Type 0
  AreAdded = IsAdded (has_counts (context doc m ms) && has_wide_counts doc (next_column doc.style ms) m)
      (deals_floats doc placed m (context doc m ms)) (has_callouts doc placed m) (is_near doc m ms)
      (float_demerits doc.style (distance doc m ms) (added doc placed m))

  pub added_is : (c d k : Bool) (price : Option ℕ) →
      c ≡ (has_counts (context doc m ms) && has_wide_counts doc (next_column doc.style ms) m) →
      d ≡ deals_floats doc placed m (context doc m ms) →
      (d ≡ true → k ≡ has_callouts doc placed m) →
      (d ≡ true → ArePriced is_close pays (added doc placed m) price) → AreAdded (added_by c d k price)
  added_is c d k None e f g h = too_far
      (has_counts (context doc m ms) && has_wide_counts doc (next_column doc.style ms) m)
      (deals_floats doc placed m (context doc m ms)) (has_callouts doc placed m) (is_near doc m ms)
      (float_demerits doc.style (distance doc m ms) (added doc placed m)) c d k e f g h
  added_is c d k (Some price) e f g h = near_enough
      (has_counts (context doc m ms) && has_wide_counts doc (next_column doc.style ms) m)
      (deals_floats doc placed m (context doc m ms)) (has_callouts doc placed m) (is_near doc m ms)
      (float_demerits doc.style (distance doc m ms) (added doc placed m)) price c d k e f g h
