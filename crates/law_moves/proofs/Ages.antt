-- Ages and demerits class by class are those of the rules.
use Rattle.std.proofs.Common.{◌≡◌, ◌≢◌, refl, sym, ap, subst, ◌∙◌, ℕ, zero, suc, ◌+◌, ◌-◌, ◌≤◌, ◌<◌, inl, inr, List, [], ◌∷◌, ◌++◌, map, length, length-append, length-drop, take, drop, Bool, true, false, arith}
use Rattle.std.specs.Prelude.{◌==◌, ◌&&◌, nat_le, nat_lt, replicate, slice_index, ℤ, pos, ◌+ℤ◌}
use Rattle.std.specs.List.{flat_map, list_all, range_with_len}
use Rattle.std.proofs.lemmas.Int.{ints}
use Rattle.std.proofs.lemmas.List.{map-append}
use Rattle.pg_list.specs.declared.galley.Place.{Place}
use Rattle.pg_plan.specs.declared.pages.PageMove.{PageMove}
use Rattle.pg_plan.specs.declared.states.State.{State}
use Rattle.pg_list.specs.Whole.{whole_sum_by}
use Rattle.pg_rules.specs.Cost.{float_demerits}
use Rattle.pg_rules.specs.Floats.{called, distance_table, entry, float_numbers, floats_between, numbered, slots}
use Rattle.pg_rules.specs.Follow.{age_among, age_in, is_same_float, may_turn, next_state, turns, waiting_in}
use Rattle.pg_rules.specs.History.{is_called, placed_after}
use Rattle.pg_rules.specs.IsState.{IsState}
use Rattle.pg_rules.specs.Legal.{added, has_callouts}
use Rattle.pg_rules.specs.Room.{Document}
use Rattle.law_places.proofs.Among.{Among, all_at, all_same, sum_same, sum_append}
use Rattle.pg_lemmas.proofs.Bools.{both, both_of, by_bool, if_false, if_true}
use Rattle.pg_lemmas.proofs.Lists.{zeros_long}
use Rattle.pg_lemmas.proofs.Numbers.{eq_refl, less_true, not_less}
use Rattle.std.proofs.lemmas.Bool.{eqb-true, leb-true}
use Rattle.law_columns.proofs.Waiting.{placed_more, slot_below, slotted}
use Rattle.pg_floats.specs.History.{ages_of}
use Rattle.law_moves.specs.Ages.{ages_left, float_cost, line_of, may_wait, waits_of}
use Rattle.pg_floats.proofs.Ranges.{all_append_is}
use Rattle.law_columns.proofs.BoundCounts.{entry_beyond}
use Rattle.law_moves.proofs.Callouts.{callouts_bound}
use Rattle.law_places.proofs.Members.{below_in}

-- ---- the age of a float is found by its class and its place in the line

not_same : (slot n k : ℕ) → is_same_float (slot, n) (slot, n + suc k) ≡ false
not_same slot n k = by_bool (is_same_float (slot, n) (slot, n + suc k))
    (λ t. absurd (let e : n ≡ n + suc k = eqb-true n (n + suc k) (both_of (slot == slot) (n == n + suc k) t).1 in
    omega arith)) (λ f. f)

other_slot : (a b n m : ℕ) → a ≢ b → is_same_float (a, n) (b, m) ≡ false
other_slot a b n m h = by_bool (is_same_float (a, n) (b, m))
    (λ t. absurd (h (eqb-true a b (both_of (a == b) (n == m) t).0))) (λ f. f)

same_here : (slot n : ℕ) → is_same_float (slot, n) (slot, n) ≡ true
same_here slot n = both (slot == slot) (n == n) (eq_refl slot) (eq_refl n)

-- in the floats of its own class
own_age : (slot n m i : ℕ) (rest : List (ℕ × ℕ)) (ages : List ℕ) → i < m → m ≤ length ages →
    age_among (numbered slot n m ++ rest) ages (slot, n + i) ≡ entry (take m ages) i
own_age slot n zero i rest ages h l = absurd (omega arith)
own_age slot n (suc m) i rest [] h l = absurd (omega arith)
own_age slot n (suc m) zero rest (age ∷ ages) h l =
    let e : n ≡ n + 0 = omega arith in
    if_true (is_same_float (slot, n) (slot, n + 0)) _ _
    (subst (λ (k : ℕ). is_same_float (slot, n) (slot, k) ≡ true) e (same_here slot n))
own_age slot n (suc m) (suc i) rest (age ∷ ages) h l =
    let e : n + suc i ≡ n + 1 + i = omega arith in
    if_false (is_same_float (slot, n) (slot, n + suc i)) _ _ (not_same slot n i)
    ∙ ap (λ (k : ℕ). age_among (numbered slot (n + 1) m ++ rest) ages (slot, k)) e
    ∙ own_age slot (n + 1) m i rest ages (omega arith) (omega arith)

-- behind the floats of another class
other_age : (slot n m : ℕ) (rest : List (ℕ × ℕ)) (ages : List ℕ) (other k : ℕ) → slot ≢ other →
    m ≤ length ages → age_among (numbered slot n m ++ rest) ages (other, k) ≡ age_among rest (drop m ages) (other, k)
other_age slot n zero rest ages other k h l = refl
other_age slot n (suc m) rest [] other k h l = absurd (omega arith)
other_age slot n (suc m) rest (age ∷ ages) other k h l =
    if_false (is_same_float (slot, n) (other, k)) _ _ (other_slot slot other n k h)
    ∙ other_age slot (n + 1) m rest ages other k h (omega arith)

-- the counts between two lists of counts
abbrev differences : List ℕ → List ℕ → List ℕ → List ℕ
differences a b slots = map (λ (slot : ℕ). entry b slot - entry a slot) slots

-- as many floats of a slot as lie between
pub between_long : (a b : List ℕ) (slot : ℕ) →
    length (numbered slot (entry a slot) (entry b slot - entry a slot)) ≡ entry b slot - entry a slot
between_long a b slot = each (entry a slot) (entry b slot - entry a slot)
  where
    each : (n k : ℕ) → length (numbered slot n k) ≡ k
    each n zero = refl
    each n (suc k) = ap suc (each (n + 1) k)

age_from : (a b : List ℕ) (f k : ℕ) (ages : List ℕ) (d i : ℕ) → d < k →
    i < entry b (f + d) - entry a (f + d) → length (slotted a b (range_with_len f k)) ≤ length ages →
    age_among (slotted a b (range_with_len f k)) ages (f + d, entry a (f + d) + i)
    ≡ entry (ages_of (differences a b (range_with_len f k)) ages d) i
age_from a b f zero ages d i h p l = absurd (omega arith)
age_from a b f (suc k) ages zero i h p l =
    let z : f + 0 ≡ f = omega arith in
    let n : length (numbered f (entry a f) (entry b f - entry a f) ++ slotted a b (range_with_len (f + 1) k))
    ≡ length (numbered f (entry a f) (entry b f - entry a f)) + length (slotted a b (range_with_len (f + 1) k)) =
    length-append (numbered f (entry a f) (entry b f - entry a f)) (slotted a b (range_with_len (f + 1) k)) in
    let m : length (numbered f (entry a f) (entry b f - entry a f)) ≡ entry b f - entry a f =
    between_long a b f in
    ap (λ (s : ℕ). age_among (slotted a b (range_with_len f (suc k))) ages (s, entry a s + i)) z
    ∙ own_age f (entry a f) (entry b f - entry a f) i (slotted a b (range_with_len (f + 1) k)) ages
    (subst (λ (s : ℕ). i < entry b s - entry a s) z p) (omega arith)
age_from a b f (suc k) ages (suc d) i h p l =
    let e : f + suc d ≡ f + 1 + d = omega arith in
    let n : length (numbered f (entry a f) (entry b f - entry a f) ++ slotted a b (range_with_len (f + 1) k))
    ≡ length (numbered f (entry a f) (entry b f - entry a f)) + length (slotted a b (range_with_len (f + 1) k)) =
    length-append (numbered f (entry a f) (entry b f - entry a f)) (slotted a b (range_with_len (f + 1) k)) in
    let m : length (numbered f (entry a f) (entry b f - entry a f)) ≡ entry b f - entry a f =
    between_long a b f in
    let q : length (drop (entry b f - entry a f) ages) ≡ length ages - (entry b f - entry a f) =
    length-drop (entry b f - entry a f) ages in
    ap (λ (s : ℕ). age_among (slotted a b (range_with_len f (suc k))) ages (s, entry a s + i)) e
    ∙ other_age f (entry a f) (entry b f - entry a f) (slotted a b (range_with_len (f + 1) k)) ages (f + 1 + d)
    (entry a (f + 1 + d) + i) (λ (s : f ≡ f + 1 + d). omega arith) (omega arith)
    ∙ age_from a b (f + 1) k (drop (entry b f - entry a f) ages) d i (omega arith)
    (subst (λ (s : ℕ). i < entry b s - entry a s) e p) (omega arith)

-- ---- a line as a list

entry_zeros : (n i : ℕ) → entry (replicate n 0) i ≡ 0
entry_zeros zero i = refl
entry_zeros (suc n) zero = refl
entry_zeros (suc n) (suc i) = entry_zeros n i

entry_line : (xs : List ℕ) (n i : ℕ) → entry (xs ++ replicate n 0) i ≡ entry xs i
entry_line [] n i = entry_zeros n i
entry_line (x ∷ xs) n zero = refl
entry_line (x ∷ xs) n (suc i) = entry_line xs n i

-- the floats from a number on are those of the line from there on
line_behind : {Y : Type 0} (g : ℕ → Y) (age : ℕ × ℕ → ℕ) (slot base q k : ℕ) (line : List ℕ) →
    ((i : ℕ) → age (slot, base + i) ≡ entry line i) → k ≡ length line - q →
    map (λ (float : ℕ × ℕ). g (age float)) (numbered slot (base + q) k) ≡ map g (drop q line)
line_behind g age slot base zero zero [] h l = refl
line_behind g age slot base zero (suc k) [] h l = absurd (omega arith)
line_behind g age slot base zero zero (x ∷ line) h l = absurd (omega arith)
line_behind {Y} g age slot base zero (suc k) (x ∷ line) h l =
    let e : base + 0 + 1 ≡ base + 1 + 0 = omega arith in
    let a : g (age (slot, base + 0)) ≡ g x = ap g (h 0) in
    let b : map (λ (float : ℕ × ℕ). g (age float)) (numbered slot (base + 0 + 1) k) ≡ map g line =
    ap (λ (n : ℕ). map (λ (float : ℕ × ℕ). g (age float)) (numbered slot n k)) e
    ∙ line_behind g age slot (base + 1) zero k line
    (λ i. (let s : base + 1 + i ≡ base + suc i = omega arith in
    ap (λ (n : ℕ). age (slot, n)) s ∙ h (suc i))) (omega arith) in
    ap (λ (y : Y). y ∷ map (λ (float : ℕ × ℕ). g (age float)) (numbered slot (base + 0 + 1) k)) a
    ∙ ap (λ ys. g x ∷ ys) b
line_behind g age slot base (suc q) zero [] h l = refl
line_behind g age slot base (suc q) (suc k) [] h l = absurd (omega arith)
line_behind g age slot base (suc q) k (x ∷ line) h l =
    let e : base + suc q ≡ base + 1 + q = omega arith in
    ap (λ (n : ℕ). map (λ (float : ℕ × ℕ). g (age float)) (numbered slot n k)) e
    ∙ line_behind g age slot (base + 1) q k line
    (λ i. (let s : base + 1 + i ≡ base + suc i = omega arith in
    ap (λ (n : ℕ). age (slot, n)) s ∙ h (suc i))) (omega arith)

-- those from a number on, so many, are the first of the line
line_front : {Y : Type 0} (g : ℕ → Y) (age : ℕ × ℕ → ℕ) (slot base q : ℕ) (line : List ℕ) →
    ((i : ℕ) → age (slot, base + i) ≡ entry line i) → q ≤ length line →
    map (λ (float : ℕ × ℕ). g (age float)) (numbered slot base q) ≡ map g (take q line)
line_front g age slot base zero line h l = refl
line_front g age slot base (suc q) [] h l = absurd (omega arith)
line_front {Y} g age slot base (suc q) (x ∷ line) h l =
    let z : base ≡ base + 0 = omega arith in
    let a : g (age (slot, base)) ≡ g x = ap (λ (n : ℕ). g (age (slot, n))) z ∙ ap g (h 0) in
    let b : map (λ (float : ℕ × ℕ). g (age float)) (numbered slot (base + 1) q) ≡ map g (take q line) =
    line_front g age slot (base + 1) q line
    (λ i. (let s : base + 1 + i ≡ base + suc i = omega arith in
    ap (λ (n : ℕ). age (slot, n)) s ∙ h (suc i))) (omega arith) in
    ap (λ (y : Y). y ∷ map (λ (float : ℕ × ℕ). g (age float)) (numbered slot (base + 1) q)) a
    ∙ ap (λ ys. g x ∷ ys) b

own_length : (a b : List ℕ) (f k : ℕ) (ages : List ℕ) (d : ℕ) → d < k →
    length (slotted a b (range_with_len f k)) ≤ length ages →
    length (ages_of (differences a b (range_with_len f k)) ages d) ≡ entry b (f + d) - entry a (f + d)
own_length a b f zero ages d h l = absurd (omega arith)
own_length a b f (suc k) ages zero h l =
    let z : f + 0 ≡ f = omega arith in
    let n : length (numbered f (entry a f) (entry b f - entry a f) ++ slotted a b (range_with_len (f + 1) k))
    ≡ length (numbered f (entry a f) (entry b f - entry a f)) + length (slotted a b (range_with_len (f + 1) k)) =
    length-append (numbered f (entry a f) (entry b f - entry a f)) (slotted a b (range_with_len (f + 1) k)) in
    let m : length (numbered f (entry a f) (entry b f - entry a f)) ≡ entry b f - entry a f =
    between_long a b f in
    taken (entry b f - entry a f) ages (omega arith) ∙ ap (λ (s : ℕ). entry b s - entry a s) (sym z)
  where
    taken : (n : ℕ) (xs : List ℕ) → n ≤ length xs → length (take n xs) ≡ n
    taken zero xs h = refl
    taken (suc n) [] h = absurd (omega arith)
    taken (suc n) (x ∷ xs) h = ap suc (taken n xs (omega arith))
own_length a b f (suc k) ages (suc d) h l =
    let e : f + 1 + d ≡ f + suc d = omega arith in
    let n : length (numbered f (entry a f) (entry b f - entry a f) ++ slotted a b (range_with_len (f + 1) k))
    ≡ length (numbered f (entry a f) (entry b f - entry a f)) + length (slotted a b (range_with_len (f + 1) k)) =
    length-append (numbered f (entry a f) (entry b f - entry a f)) (slotted a b (range_with_len (f + 1) k)) in
    let m : length (numbered f (entry a f) (entry b f - entry a f)) ≡ entry b f - entry a f =
    between_long a b f in
    let q : length (drop (entry b f - entry a f) ages) ≡ length ages - (entry b f - entry a f) =
    length-drop (entry b f - entry a f) ages in
    own_length a b (f + 1) k (drop (entry b f - entry a f) ages) d (omega arith) (omega arith)
    ∙ ap (λ (s : ℕ). entry b s - entry a s) e

-- ---- sums and tests over lists of lists

map_flat : {X Y Z : Type 0} (g : Y → Z) (f : X → List Y) (xs : List X) →
    map g (flat_map f xs) ≡ flat_map (λ x. map g (f x)) xs
map_flat g f [] = refl
map_flat g f (x ∷ xs) = map-append g (f x) (flat_map f xs) ∙ ap (λ zs. map g (f x) ++ zs) (map_flat g f xs)

pub flat_same : {X Y : Type 0} (f g : X → List Y) (xs : List X) → ((x : X) → Among x xs → f x ≡ g x) →
    flat_map f xs ≡ flat_map g xs
flat_same f g [] h = refl
flat_same f g (x ∷ xs) h = ap (λ zs. zs ++ flat_map f xs) (h x (inl refl))
    ∙ ap (λ zs. g x ++ zs) (flat_same f g xs (λ y a. h y (inr a)))

sum_flat : {X Y : Type 0} (h : Y → ℤ) (f : X → List Y) (xs : List X) →
    whole_sum_by h (flat_map f xs) ≡ whole_sum_by (λ x. whole_sum_by h (f x)) xs
sum_flat h f [] = refl
sum_flat h f (x ∷ xs) = sum_append h (f x) (flat_map f xs)
    ∙ ap (λ (z : ℤ). whole_sum_by h (f x) +ℤ z) (sum_flat h f xs)

sum_map : {X : Type 0} (g : X → ℤ) (xs : List X) → whole_sum_by (λ (z : ℤ). z) (map g xs) ≡ whole_sum_by g xs
sum_map g [] = refl
sum_map g (x ∷ xs) = ap (λ (z : ℤ). g x +ℤ z) (sum_map g xs)

all_flat : {X Y : Type 0} (p : Y → Bool) (f : X → List Y) (xs : List X) →
    list_all p (flat_map f xs) ≡ list_all (λ x. list_all p (f x)) xs
all_flat p f [] = refl
all_flat p f (x ∷ xs) = all_append_is p (f x) (flat_map f xs)
    ∙ ap (λ (b : Bool). list_all p (f x) && b) (all_flat p f xs)

all_map : {X : Type 0} (g : X → Bool) (xs : List X) → list_all (λ (b : Bool). b) (map g xs) ≡ list_all g xs
all_map g [] = refl
all_map g (x ∷ xs) = ap (λ (b : Bool). g x && b) (all_map g xs)

-- the class of floats that are numbered in one slot
map_slot : {Y : Type 0} (w : ℕ → ℕ → Y) (age : ℕ × ℕ → ℕ) (slot n k : ℕ) →
    map (λ (float : ℕ × ℕ). w float.0 (age float)) (numbered slot n k)
    ≡ map (λ (float : ℕ × ℕ). w slot (age float)) (numbered slot n k)
map_slot w age slot n zero = refl
map_slot w age slot n (suc k) = ap (λ ys. w slot (age (slot, n)) ∷ ys) (map_slot w age slot (n + 1) k)

-- ---- in a state

module _ (doc : Document) (u : State) (own : IsState doc u) where
  abbrev count : ℕ
  count = length (float_numbers doc.style)

  abbrev here : List ℕ
  here = called doc.blocks doc.style u.place

  pub placed_called : (slot : ℕ) → slot < count → entry u.placed slot ≤ entry here slot
  placed_called slot h = leb-true _ _ (all_at (λ (s : ℕ). nat_le (entry u.placed s) (entry here s)) (slots doc.style)
      slot own.called (below_in count slot h))

  as_many : length (slotted u.placed here (range_with_len 0 count)) ≤ length u.ages
  as_many = let e : length u.ages ≡ length (waiting_in doc u) = own.waiting in omega arith

  abbrev own_ages : ℕ → List ℕ
  own_ages slot = ages_of (waits_of doc u) u.ages slot

  own_count : (slot : ℕ) → slot < count → length (own_ages slot) ≡ entry here slot - entry u.placed slot
  own_count slot h = let z : 0 + slot ≡ slot = omega arith in
      own_length u.placed here 0 count u.ages slot h as_many ∙ ap (λ (s : ℕ). entry here s - entry u.placed s) z

  module _ (to : Place) where
    abbrev there : List ℕ
    there = called doc.blocks doc.style to

    -- the age of a float of a class, by its place in the line
    age_at : (slot i : ℕ) → slot < count →
        age_in doc u (slot, entry u.placed slot + i) ≡ entry (line_of doc u to slot) i
    age_at slot i h = by_bool (is_called doc u.place (slot, entry u.placed slot + i)) waits new
      where
        z : 0 + slot ≡ slot
        z = omega arith

        waits : is_called doc u.place (slot, entry u.placed slot + i) ≡ true →
            age_in doc u (slot, entry u.placed slot + i) ≡ entry (line_of doc u to slot) i
        waits t =
            let l : entry u.placed slot + i < entry here slot = less_true _ _ t in
            if_true (is_called doc u.place (slot, entry u.placed slot + i)) _ _ t
            ∙ ap (λ (s : ℕ). age_among (waiting_in doc u) u.ages (s, entry u.placed s + i)) (sym z)
            ∙ age_from u.placed here 0 count u.ages slot i h
            (subst (λ (s : ℕ). i < entry here s - entry u.placed s) (sym z) (omega arith)) as_many
            ∙ sym (entry_line (own_ages slot) (entry there slot - entry here slot) i)

        new : is_called doc u.place (slot, entry u.placed slot + i) ≡ false →
            age_in doc u (slot, entry u.placed slot + i) ≡ entry (line_of doc u to slot) i
        new f =
            let l : entry here slot ≤ entry u.placed slot + i = not_less _ _ f in
            let p : entry u.placed slot ≤ entry here slot = placed_called slot h in
            let n : length (own_ages slot) ≡ entry here slot - entry u.placed slot = own_count slot h in
            if_false (is_called doc u.place (slot, entry u.placed slot + i)) _ _ f
            ∙ sym (entry_beyond (own_ages slot) i (omega arith))
            ∙ sym (entry_line (own_ages slot) (entry there slot - entry here slot) i)

    module _ (grows : (slot : ℕ) → slot < count → entry here slot ≤ entry there slot) where
      line_length : (slot : ℕ) → slot < count →
          length (line_of doc u to slot) ≡ entry there slot - entry u.placed slot
      line_length slot h =
          let a : length (own_ages slot ++ replicate (entry there slot - entry here slot) 0)
          ≡ length (own_ages slot) + length {A = ℕ} (replicate (entry there slot - entry here slot) 0) =
          length-append (own_ages slot) (replicate (entry there slot - entry here slot) 0) in
          let b : length {A = ℕ} (replicate (entry there slot - entry here slot) 0) ≡ entry there slot - entry here slot =
          zeros_long (entry there slot - entry here slot) in
          let c : length (own_ages slot) ≡ entry here slot - entry u.placed slot = own_count slot h in
          let d : entry here slot ≤ entry there slot = grows slot h in
          let e : entry u.placed slot ≤ entry here slot = placed_called slot h in
          omega arith

      module _ (after : List ℕ) (more : (slot : ℕ) → slot < count → entry u.placed slot ≤ entry after slot) where
        -- what is told of the floats of a class that are left, by their ages
        left_is : {Y : Type 0} (w : ℕ → ℕ → Y) (slot : ℕ) → slot < count →
            map (λ (float : ℕ × ℕ). w float.0 (age_in doc u float))
            (numbered slot (entry after slot) (entry there slot - entry after slot))
            ≡ map (w slot) (drop (entry after slot - entry u.placed slot) (line_of doc u to slot))
        left_is w slot h =
            let a : entry u.placed slot ≤ entry after slot = more slot h in
            let b : length (line_of doc u to slot) ≡ entry there slot - entry u.placed slot = line_length slot h in
            let e : entry after slot ≡ entry u.placed slot + (entry after slot - entry u.placed slot) = omega arith in
            map_slot w (age_in doc u) slot (entry after slot) (entry there slot - entry after slot)
            ∙ ap (λ (n : ℕ). map (λ (float : ℕ × ℕ). w slot (age_in doc u float))
            (numbered slot n (entry there slot - entry after slot))) e
            ∙ line_behind (w slot) (age_in doc u) slot (entry u.placed slot) (entry after slot - entry u.placed slot)
            (entry there slot - entry after slot) (line_of doc u to slot) (λ i. age_at slot i h) (omega arith)

        -- and of those that are placed
        placed_is : {Y : Type 0} (w : ℕ → ℕ → Y) (slot : ℕ) → slot < count →
            (entry u.placed slot < entry after slot → entry after slot ≤ entry there slot) →
            map (λ (float : ℕ × ℕ). w float.0 (age_in doc u float))
            (numbered slot (entry u.placed slot) (entry after slot - entry u.placed slot))
            ≡ map (w slot) (take (entry after slot - entry u.placed slot) (line_of doc u to slot))
        placed_is w slot h bound =
            let b : length (line_of doc u to slot) ≡ entry there slot - entry u.placed slot = line_length slot h in
            let c : entry after slot - entry u.placed slot ≤ length (line_of doc u to slot) =
            few (entry u.placed slot) (entry after slot) (entry there slot) (length (line_of doc u to slot)) b bound in
            map_slot w (age_in doc u) slot (entry u.placed slot) (entry after slot - entry u.placed slot)
            ∙ line_front (w slot) (age_in doc u) slot (entry u.placed slot) (entry after slot - entry u.placed slot)
            (line_of doc u to slot) (λ i. age_at slot i h) c
          where
            few : (p a t l : ℕ) → l ≡ t - p → (p < a → a ≤ t) → a - p ≤ l
            few p a t l e k = by_bool (nat_lt p a) (λ y. (let x : a ≤ t = k (less_true p a y) in omega arith))
                (λ n. (let x : a ≤ p = not_less p a n in omega arith))

        within : (slot : ℕ) → Among slot (slots doc.style) → slot < count
        within slot a = let r = slot_below 0 count slot a in let p : slot < 0 + count = r.1 in omega arith

        ages_are : (pages : ℕ) →
            map (λ (float : ℕ × ℕ). age_in doc u float + pages) (floats_between doc.style after there)
            ≡ ages_left doc u to after pages
        ages_are pages = map_flat (λ (float : ℕ × ℕ). age_in doc u float + pages)
            (λ (slot : ℕ). numbered slot (entry after slot) (entry there slot - entry after slot)) (slots doc.style)
            ∙ flat_same _ _ (slots doc.style)
            (λ slot a. left_is (λ (s age : ℕ). age + pages) slot (within slot a))

        may_wait_is : (pages : ℕ) →
            list_all (λ (float : ℕ × ℕ). nat_lt (age_in doc u float + pages) (length (distance_table doc.style float.0)))
            (floats_between doc.style after there)
            ≡ may_wait doc u to after pages
        may_wait_is pages = all_flat
            (λ (float : ℕ × ℕ). nat_lt (age_in doc u float + pages) (length (distance_table doc.style float.0)))
            (λ (slot : ℕ). numbered slot (entry after slot) (entry there slot - entry after slot)) (slots doc.style)
            ∙ all_same _ _ (slots doc.style) (λ slot a.
            sym (all_map (λ (float : ℕ × ℕ). nat_lt (age_in doc u float + pages)
            (length (distance_table doc.style float.0)))
            (numbered slot (entry after slot) (entry there slot - entry after slot)))
            ∙ ap (list_all (λ (b : Bool). b)) (left_is
            (λ (s age : ℕ). nat_lt (age + pages) (length (distance_table doc.style s))) slot (within slot a))
            ∙ all_map (λ (age : ℕ). nat_lt (age + pages) (length (distance_table doc.style slot)))
            (drop (entry after slot - entry u.placed slot) (line_of doc u to slot)))

        cost_is : ((slot : ℕ) → slot < count → entry u.placed slot < entry after slot →
            entry after slot ≤ entry there slot) →
            float_demerits doc.style (age_in doc u) (floats_between doc.style u.placed after)
            ≡ float_cost doc u to after
        cost_is bound = sum_flat
            (λ (float : ℕ × ℕ). pos (slice_index (distance_table doc.style float.0) (age_in doc u float)))
            (λ (slot : ℕ). numbered slot (entry u.placed slot) (entry after slot - entry u.placed slot))
            (slots doc.style)
            ∙ sum_same _ _ (slots doc.style) (λ slot a.
            sym (sum_map (λ (float : ℕ × ℕ). pos (slice_index (distance_table doc.style float.0) (age_in doc u float)))
            (numbered slot (entry u.placed slot) (entry after slot - entry u.placed slot)))
            ∙ ap (whole_sum_by (λ (z : ℤ). z)) (placed_is
            (λ (s age : ℕ). pos (slice_index (distance_table doc.style s) age)) slot (within slot a)
            (bound slot (within slot a)))
            ∙ sum_map (λ (age : ℕ). pos (slice_index (distance_table doc.style slot) age))
            (take (entry after slot - entry u.placed slot) (line_of doc u to slot)))

  -- ---- of a column

  pub record AreAges (m : PageMove) : Type 0 where
    pub ages : (next_state doc u m).ages
        ≡ ages_left doc u m.column.to (placed_after doc.style u.placed m) (turns doc.style u)
    pub may : may_turn doc u m ≡ may_wait doc u m.column.to (placed_after doc.style u.placed m) (turns doc.style u)

  pub column_ages : (m : PageMove) → ((slot : ℕ) → slot < count →
      entry here slot ≤ entry (called doc.blocks doc.style m.column.to) slot) → AreAges m
  column_ages m grows = record {
    ages = ages_are m.column.to grows (placed_after doc.style u.placed m)
        (λ slot h. placed_more doc.style u.placed m slot h) (turns doc.style u);
    may = may_wait_is m.column.to grows (placed_after doc.style u.placed m)
        (λ slot h. placed_more doc.style u.placed m slot h) (turns doc.style u);
  }

  pub column_cost_is : (m : PageMove) → ((slot : ℕ) → slot < count →
      entry here slot ≤ entry (called doc.blocks doc.style m.column.to) slot) → has_callouts doc u.placed m ≡ true →
      float_demerits doc.style (age_in doc u) (added doc u.placed m)
      ≡ float_cost doc u m.column.to (placed_after doc.style u.placed m)
  column_cost_is m grows callouts = cost_is m.column.to grows (placed_after doc.style u.placed m)
      (λ slot h. placed_more doc.style u.placed m slot h)
      (λ slot h k. callouts_bound doc u.placed m callouts slot h k)
