-- Floats that a column adds are there, and are called.
use Rattle.std.proofs.Common.{◌≡◌, refl, sym, subst, ℕ, zero, suc, ◌+◌, ◌-◌, ◌≤◌, ◌<◌, List, [], ◌∷◌, map, length, Bool, true, false, arith}
use Rattle.std.specs.Prelude.{◌||◌, ◌==◌, nat_le, ℤ}
use Rattle.std.proofs.lemmas.List.{length-map}
use Rattle.pg_plan.specs.declared.pages.PageMove.{PageMove}
use Rattle.pg_style.specs.Values.{StyleValue}
use Rattle.pg_rules.specs.Floats.{called, entry, float_numbers, floats, has_all, has_all_from, plus_counts}
use Rattle.pg_rules.specs.History.{is_called, placed_after, with_wide}
use Rattle.pg_rules.specs.Legal.{added, has_callouts}
use Rattle.pg_rules.specs.Room.{Document}
use Rattle.std.proofs.lemmas.Bool.{le-leb}
use Rattle.law_columns.proofs.Waiting.{IsBetween, between_at, between_of, entry_plus}
use Rattle.law_places.proofs.Among.{all_at, all_of}
use Rattle.pg_lemmas.proofs.Bools.{both}
use Rattle.pg_lemmas.proofs.Numbers.{less_of, less_true}
use Rattle.pg_layouts.proofs.Areas.{Below}
use Rattle.law_moves.specs.Steps.{float_counts}

-- ---- floats that are there

has_from : (k : ℕ) (floats : List (List ℤ)) (before counts : List ℕ) →
    ((slot : ℕ) → slot < length floats → 0 < entry counts (k + slot) → entry before (k + slot)
    + entry counts (k + slot) ≤ entry (map (λ (sizes : List ℤ). length sizes) floats) slot) →
    has_all_from k floats before counts ≡ true
has_from k [] before counts h = refl
has_from k (sizes ∷ floats) before counts h = both _ _ (here (entry counts k) refl)
    (has_from (k + 1) floats before counts (λ slot l m. (let e : k + suc slot ≡ k + 1 + slot = omega arith in
    subst (λ (s : ℕ). entry before s + entry counts s ≤ entry (map (λ (sizes : List ℤ). length sizes) floats) slot) e
    (h (suc slot) (omega arith) (subst (λ (s : ℕ). 0 < entry counts s) (sym e) m)))))
  where
    here : (n : ℕ) → n ≡ entry counts k → ((n == 0) || nat_le (entry before k + n) (length sizes)) ≡ true
    here zero e = refl
    here (suc n) e =
        let z : k + 0 ≡ k = omega arith in
        let l : entry before (k + 0) + entry counts (k + 0) ≤ length sizes =
        h 0 (omega arith) (subst (λ (s : ℕ). 0 < entry counts s) (sym z) (omega arith)) in
        let m : entry before k + entry counts k ≤ length sizes =
        subst (λ (s : ℕ). entry before s + entry counts s ≤ length sizes) z l in
        or_right (suc n == 0) _ (le-leb (entry before k + suc n) (length sizes) (omega arith))
      where
        or_right : (a b : Bool) → b ≡ true → (a || b) ≡ true
        or_right true b h = refl
        or_right false b h = h

floats_long : (doc : Document) → length (floats doc.blocks doc.style) ≡ length (float_numbers doc.style)
floats_long doc = length-map (float_numbers doc.style) _

-- floats up to a ceiling are there
pub has_below : (doc : Document) (before counts ceiling : List ℕ) →
    ((slot : ℕ) → slot < length (float_numbers doc.style) → entry ceiling slot ≤ entry (float_counts doc) slot) →
    Below doc.style before counts ceiling → has_all (floats doc.blocks doc.style) before counts ≡ true
has_below doc before counts ceiling there below = has_from 0 (floats doc.blocks doc.style) before counts
    (λ slot l m. (let z : 0 + slot ≡ slot = omega arith in
    let k : slot < length (float_numbers doc.style) = subst (λ (n : ℕ). slot < n) (floats_long doc) l in
    let a : entry before slot + entry counts slot ≤ entry ceiling slot =
    below slot k (subst (λ (s : ℕ). 0 < entry counts s) z m) in
    let b : entry ceiling slot ≤ entry (float_counts doc) slot = there slot k in
    subst (λ (s : ℕ). entry before s + entry counts s ≤ entry (float_counts doc) slot) (sym z) (omega arith)))

-- ---- callouts

-- the counts of a column, class by class
pub after_is : (style : StyleValue) (placed : List ℕ) (m : PageMove) (slot : ℕ) →
    slot < length (float_numbers style) → entry (placed_after style placed m) slot
    ≡ ((entry placed slot + entry m.wide slot) + entry m.column.top slot) + entry m.column.bottom slot
after_is style placed m slot h =
    let a : entry (with_wide style placed m) slot ≡ entry placed slot + entry m.wide slot =
    entry_plus style placed m.wide slot h in
    let b : entry (plus_counts style (with_wide style placed m) m.column.top) slot
    ≡ entry (with_wide style placed m) slot + entry m.column.top slot =
    entry_plus style (with_wide style placed m) m.column.top slot h in
    let c : entry (placed_after style placed m) slot
    ≡ entry (plus_counts style (with_wide style placed m) m.column.top) slot + entry m.column.bottom slot =
    entry_plus style (plus_counts style (with_wide style placed m) m.column.top) m.column.bottom slot h in
    omega arith

pub callouts_bound : (doc : Document) (placed : List ℕ) (m : PageMove) → has_callouts doc placed m ≡ true →
    (slot : ℕ) → slot < length (float_numbers doc.style) →
    entry placed slot < entry (placed_after doc.style placed m) slot →
    entry (placed_after doc.style placed m) slot ≤ entry (called doc.blocks doc.style m.column.to) slot
callouts_bound doc placed m h slot l k =
    let t : entry (placed_after doc.style placed m) slot - 1 < entry (called doc.blocks doc.style m.column.to) slot =
    less_true _ _ (all_at (is_called doc m.column.to) (added doc placed m)
    (slot, entry (placed_after doc.style placed m) slot - 1) h
    (between_of doc.style placed (placed_after doc.style placed m)
    (slot, entry (placed_after doc.style placed m) slot - 1)
    (record { slot = l; from = omega arith; to = omega arith }))) in
    omega arith

pub bound_callouts : (doc : Document) (placed : List ℕ) (m : PageMove) → ((slot : ℕ) →
    slot < length (float_numbers doc.style) → entry placed slot < entry (placed_after doc.style placed m) slot →
    entry (placed_after doc.style placed m) slot ≤ entry (called doc.blocks doc.style m.column.to) slot) →
    has_callouts doc placed m ≡ true
bound_callouts doc placed m h = all_of (is_called doc m.column.to) (added doc placed m)
    (λ float a. each float (between_at doc.style placed (placed_after doc.style placed m) float a))
  where
    each : (float : ℕ × ℕ) → IsBetween doc.style placed (placed_after doc.style placed m) float →
        is_called doc m.column.to float ≡ true
    each float b =
        let p : entry placed float.0 ≤ float.1 = b.from in
        let q : float.1 < entry (placed_after doc.style placed m) float.0 = b.to in
        let r : entry (placed_after doc.style placed m) float.0
        ≤ entry (called doc.blocks doc.style m.column.to) float.0 = h float.0 b.slot (omega arith) in
        less_of _ _ (omega arith)
