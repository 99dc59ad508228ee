-- The floats between two lists of counts.
use Rattle.std.proofs.Common.{◌≡◌, sym, ap, subst, ℕ, zero, suc, ◌+◌, ◌-◌, ◌≤◌, ◌<◌, ◌⊎◌, inl, inr, List, [], ◌∷◌, ◌++◌, map, length, arith}
use Rattle.std.specs.List.{flat_map, range_with_len}
use Rattle.std.proofs.lemmas.List.FromFn.{get_or-map-range_with_len}
use Rattle.pg_style.specs.Values.{StyleValue}
use Rattle.pg_rules.specs.Floats.{numbered, floats_between, entry, slots, plus_counts, float_numbers}
use Rattle.pg_plan.specs.declared.pages.PageMove.{PageMove}
use Rattle.pg_rules.specs.History.{with_wide, placed_after}
use Rattle.law_places.proofs.Among.{Among, among_left, among_right, among_cases}

-- the float is one of the class's slots, from the one count up to the other
pub record IsBetween (style : StyleValue) (a b : List ℕ) (float : ℕ × ℕ) : Type 0 where
  pub slot : float.0 < length (float_numbers style)
  pub from : entry a float.0 ≤ float.1
  pub to : float.1 < entry b float.0

numbered_at : (s n k : ℕ) (float : ℕ × ℕ) → Among float (numbered s n k) →
    (float.0 ≡ s) × ((n ≤ float.1) × (float.1 < n + k))
numbered_at s n zero float a = absurd a
numbered_at s n (suc k) float (inl e) = let p : float.0 ≡ s = ap (λ z. z.0) (sym e) in let q : float.1 ≡ n =
    ap (λ z. z.1) (sym e) in (p, (omega arith, omega arith))
numbered_at s n (suc k) float (inr a) = let r = numbered_at s (n + 1) k float a in let p : n + 1 ≤ float.1 =
    r.1.0 in let q : float.1 < n + 1 + k = r.1.1 in (r.0, (omega arith, omega arith))

numbered_of : (s n k d : ℕ) → d < k → Among (s, n + d) (numbered s n k)
numbered_of s n zero d p = absurd (omega arith)
numbered_of s n (suc k) zero p = let e : n ≡ n + 0 = omega arith in inl (ap (λ (z : ℕ). (s, z)) e)
numbered_of s n (suc k) (suc d) p = let e : n + 1 + d ≡ n + suc d = omega arith in
    inr (subst (λ (z : ℕ). Among (s, z) (numbered s (n + 1) k)) e (numbered_of s (n + 1) k d (omega arith)))

-- the floats of some slots
abbrev pub slotted : List ℕ → List ℕ → List ℕ → List (ℕ × ℕ)
slotted a b slots = flat_map (λ (slot : ℕ). numbered slot (entry a slot) (entry b slot - entry a slot)) slots

slots_at : (a b : List ℕ) (f k : ℕ) (float : ℕ × ℕ) → Among float (slotted a b (range_with_len f k)) →
    (float.0 < f + k) × ((entry a float.0 ≤ float.1) × (float.1 < entry b float.0))
slots_at a b f zero float h = absurd h
slots_at a b f (suc k) float h =
    elim (among_cases float (numbered f (entry a f) (entry b f - entry a f))
    (slotted a b (range_with_len (f + 1) k)) h) [
      | inl x ↦ here x (numbered_at f (entry a f) (entry b f - entry a f) float x)
      | inr x ↦ there (slots_at a b (f + 1) k float x)
    ]
  where
    here : Among float (numbered f (entry a f) (entry b f - entry a f)) →
        (float.0 ≡ f) × ((entry a f ≤ float.1) × (float.1 < entry a f + (entry b f - entry a f))) →
        (float.0 < f + suc k) × ((entry a float.0 ≤ float.1) × (float.1 < entry b float.0))
    here x (e, (p, q)) = (
      omega arith,
      (
        subst (λ (z : ℕ). entry a z ≤ float.1) (sym e) p,
        subst (λ (z : ℕ). float.1 < entry b z) (sym e) (omega arith),
      ),
    )

    there : (float.0 < f + 1 + k) × ((entry a float.0 ≤ float.1) × (float.1 < entry b float.0)) →
        (float.0 < f + suc k) × ((entry a float.0 ≤ float.1) × (float.1 < entry b float.0))
    there (p, q) = (omega arith, q)

pub between_at : (style : StyleValue) (a b : List ℕ) (float : ℕ × ℕ) →
    Among float (floats_between style a b) → IsBetween style a b float
between_at style a b float h =
    let r = slots_at a b 0 (length (float_numbers style)) float h in
    let p : float.0 < 0 + length (float_numbers style) = r.0 in
    record { slot = omega arith; from = r.1.0; to = r.1.1 }

slots_of : (a b : List ℕ) (f k d m : ℕ) → d < k → entry a (f + d) ≤ m → m < entry b (f + d) →
    Among (f + d, m) (slotted a b (range_with_len f k))
slots_of a b f zero d m h p q = absurd (omega arith)
slots_of a b f (suc k) zero m h p q =
    let e : f + 0 ≡ f = omega arith in
    let p' : entry a f ≤ m = subst (λ (z : ℕ). entry a z ≤ m) e p in
    let q' : m < entry b f = subst (λ (z : ℕ). m < entry b z) e q in
    let n : entry a f + (m - entry a f) ≡ m = omega arith in
    let here : Among (f, entry a f + (m - entry a f)) (numbered f (entry a f) (entry b f - entry a f)) =
    numbered_of f (entry a f) (entry b f - entry a f) (m - entry a f) (omega arith) in
    let named : Among (f + 0, m) (numbered f (entry a f) (entry b f - entry a f)) =
    subst (λ (z : ℕ). Among (z, m) (numbered f (entry a f) (entry b f - entry a f))) (sym e)
    (subst (λ (z : ℕ). Among (f, z) (numbered f (entry a f) (entry b f - entry a f))) n here) in
    among_left (f + 0, m) (numbered f (entry a f) (entry b f - entry a f))
    (slotted a b (range_with_len (f + 1) k)) named
slots_of a b f (suc k) (suc d) m h p q =
    let e : f + suc d ≡ f + 1 + d = omega arith in
    let later : Among (f + 1 + d, m) (slotted a b (range_with_len (f + 1) k)) =
    slots_of a b (f + 1) k d m (omega arith) (subst (λ (z : ℕ). entry a z ≤ m) e p)
    (subst (λ (z : ℕ). m < entry b z) e q) in
    among_right (f + suc d, m) (numbered f (entry a f) (entry b f - entry a f))
    (slotted a b (range_with_len (f + 1) k))
    (subst (λ (z : ℕ). Among (z, m) (slotted a b (range_with_len (f + 1) k))) (sym e) later)

pub between_of : (style : StyleValue) (a b : List ℕ) (float : ℕ × ℕ) → IsBetween style a b float →
    Among float (floats_between style a b)
between_of style a b float h =
    let e : 0 + float.0 ≡ float.0 = omega arith in
    let r : Among (0 + float.0, float.1) (floats_between style a b) =
    slots_of a b 0 (length (float_numbers style)) float.0 float.1 h.slot
    (subst (λ (z : ℕ). entry a z ≤ float.1) (sym e) h.from)
    (subst (λ (z : ℕ). float.1 < entry b z) (sym e) h.to) in
    subst (λ (z : ℕ). Among (z, float.1) (floats_between style a b)) e r

pub entry_slots : (style : StyleValue) (f : ℕ → ℕ) (slot : ℕ) → slot < length (float_numbers style) →
    entry (map f (slots style)) slot ≡ f slot
entry_slots style f slot h = get_or-map-range_with_len f 0 (length (float_numbers style)) slot slot 0 h
    (omega arith)

pub entry_plus : (style : StyleValue) (a b : List ℕ) (slot : ℕ) → slot < length (float_numbers style) →
    entry (plus_counts style a b) slot ≡ entry a slot + entry b slot
entry_plus style a b slot h = entry_slots style (λ (s : ℕ). entry a s + entry b s) slot h

-- counts only grow
pub placed_more : (style : StyleValue) (placed : List ℕ) (m : PageMove) (slot : ℕ) →
    slot < length (float_numbers style) → entry placed slot ≤ entry (placed_after style placed m) slot
placed_more style placed m slot h =
    let a : entry (with_wide style placed m) slot ≡ entry placed slot + entry m.wide slot =
    entry_plus style placed m.wide slot h in
    let b : entry (plus_counts style (with_wide style placed m) m.column.top) slot
    ≡ entry (with_wide style placed m) slot + entry m.column.top slot =
    entry_plus style (with_wide style placed m) m.column.top slot h in
    let c : entry (placed_after style placed m) slot
    ≡ entry (plus_counts style (with_wide style placed m) m.column.top) slot + entry m.column.bottom
    slot = entry_plus style (plus_counts style (with_wide style placed m) m.column.top) m.column.bottom
    slot h in
    omega arith

-- a member of the slots is below their number
pub slot_below : (f k slot : ℕ) → Among slot (range_with_len f k) → (f ≤ slot) × (slot < f + k)
slot_below f zero slot a = absurd a
slot_below f (suc k) slot (inl e) = (omega arith, omega arith)
slot_below f (suc k) slot (inr a) = let r = slot_below (f + 1) k slot a in let p : f + 1 ≤ slot = r.0 in
    let q : slot < f + 1 + k = r.1 in (omega arith, omega arith)
