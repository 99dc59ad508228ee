-- The counts of an area are those that it allows, behind those that are placed and up to a ceiling.
use Rattle.std.proofs.Common.{◌≡◌, refl, sym, ap, subst, ◌∙◌, ℕ, zero, suc, ◌+◌, ◌-◌, ◌≤◌, ◌<◌, List, [], ◌∷◌, map, length, Bool, true, false, arith}
use Rattle.std.specs.Prelude.{◌||◌, ◌==◌, nat_le, if◌then◌else◌}
use Rattle.std.specs.List.{list_all, range_with_len}
use Rattle.std.proofs.lemmas.List.FromFn.{length-map-range_with_len}
use Rattle.pg_style.specs.Values.{StyleValue}
use Rattle.pg_style.specs.declared.style.Area.{Area}
use Rattle.pg_rules.specs.Floats.{entry, float_numbers, is_area_allowed, slots, total_count}
use Rattle.law_columns.proofs.ColumnCounts.{total_cons}
use Rattle.std.proofs.lemmas.Bool.{eqb-true, le-leb, leb-true}
use Rattle.law_columns.proofs.Waiting.{entry_slots, slot_below}
use Rattle.law_places.proofs.Among.{Among, all_at, all_of}
use Rattle.pg_lemmas.proofs.Bools.{both, both_of}
use Rattle.pg_lemmas.proofs.Numbers.{eq_refl}
use Rattle.pg_layouts.specs.Counts.{Within}
use Rattle.pg_floats.specs.Spots.{takes_slot}
use Rattle.pg_layouts.specs.Layouts.{area_lists, limits, zeros}
use Rattle.law_places.proofs.Members.{below_in}
use Rattle.pg_layouts.proofs.CountLists.{AreCounts, in_count_lists, of_count_lists}

-- ---- counts within limits, entry by entry

within_of : (limits counts : List ℕ) → length counts ≡ length limits →
    ((slot : ℕ) → slot < length limits → entry counts slot ≤ entry limits slot) → Within limits counts
within_of [] [] l h = tt
within_of [] (n ∷ counts) l h = absurd (omega arith)
within_of (limit ∷ limits) [] l h = absurd (omega arith)
within_of (limit ∷ limits) (n ∷ counts) l h = (
  h 0 (omega arith),
  within_of limits counts (omega arith) (λ slot k. h (suc slot) (omega arith)),
)

within_long : (limits counts : List ℕ) → Within limits counts → length counts ≡ length limits
within_long [] [] w = refl
within_long [] (n ∷ counts) w = absurd w
within_long (limit ∷ limits) [] w = absurd w
within_long (limit ∷ limits) (n ∷ counts) w = ap suc (within_long limits counts w.1)

within_at : (limits counts : List ℕ) → Within limits counts → (slot : ℕ) → entry counts slot ≤ entry limits slot
within_at [] [] w slot = omega arith
within_at [] (n ∷ counts) w slot = absurd w
within_at (limit ∷ limits) [] w slot = absurd w
within_at (limit ∷ limits) (n ∷ counts) w zero = w.0
within_at (limit ∷ limits) (n ∷ counts) w (suc slot) = within_at limits counts w.1 slot

-- behind the last count
-- ---- what the counts of an area keep

-- each class that deals out floats stays below a ceiling
abbrev pub Below : StyleValue → List ℕ → List ℕ → List ℕ → Type 0
Below style before counts ceiling = (slot : ℕ) → slot < length (float_numbers style) → 0 < entry counts slot →
    entry before slot + entry counts slot ≤ entry ceiling slot

pub record IsOfArea (style : StyleValue) (takes : Area → Bool) (most : ℕ) (before ceiling counts : List ℕ) :
    Type 0 where
  pub long : length counts ≡ length (float_numbers style)
  pub allowed : is_area_allowed style takes most counts ≡ true
  pub below : Below style before counts ceiling

pub slots_long : (style : StyleValue) (f : ℕ → ℕ) → length (map f (slots style)) ≡ length (float_numbers style)
slots_long style f = length-map-range_with_len f 0 (length (float_numbers style))

limit_is : (style : StyleValue) (takes : Area → Bool) (before ceiling : List ℕ) (slot : ℕ) →
    slot < length (float_numbers style) → entry (limits style takes before ceiling) slot
    ≡ (if takes_slot style takes slot then entry ceiling slot - entry before slot else 0)
limit_is style takes before ceiling slot h = entry_slots style
    (λ (s : ℕ). if takes_slot style takes s then entry ceiling s - entry before s else 0) slot h

pub in_area : (style : StyleValue) (takes : Area → Bool) (most : ℕ) (before ceiling counts : List ℕ) →
    is_area_allowed style takes most counts ≡ true → Below style before counts ceiling →
    Among counts (area_lists style takes most before ceiling)
in_area style takes most before ceiling counts allowed below =
    let a = both_of _ _ allowed in
    let b = both_of (length counts == length (float_numbers style)) (nat_le (total_count counts) most) a.0 in
    let long : length counts ≡ length (float_numbers style) =
    eqb-true (length counts) (length (float_numbers style)) b.0 in
    in_count_lists most (limits style takes before ceiling) counts
    (within_of (limits style takes before ceiling) counts
    (long ∙ sym (slots_long style _)) (λ slot h. each slot
    (subst (λ (n : ℕ). slot < n) (slots_long style _) h) long a.1))
    (leb-true (total_count counts) most b.1)
  where
    each : (slot : ℕ) → slot < length (float_numbers style) → length counts ≡ length (float_numbers style) →
        list_all (λ (s : ℕ). (entry counts s == 0) || takes_slot style takes s) (range_with_len 0 (length counts))
        ≡ true → entry counts slot ≤ entry (limits style takes before ceiling) slot
    each slot h long all =
        let e : entry (limits style takes before ceiling) slot
        ≡ (if takes_slot style takes slot then entry ceiling slot - entry before slot else 0) =
        limit_is style takes before ceiling slot h in
        let t : ((entry counts slot == 0) || takes_slot style takes slot) ≡ true =
        all_at (λ (s : ℕ). (entry counts s == 0) || takes_slot style takes s) (range_with_len 0 (length counts)) slot
        all (below_in (length counts) slot (omega arith)) in
        let k : entry counts slot ≤ (if takes_slot style takes slot then entry ceiling slot - entry before slot else 0) =
        by (entry counts slot) refl (takes_slot style takes slot) t in
        omega arith
      where
        by : (n : ℕ) → n ≡ entry counts slot → (b : Bool) → ((n == 0) || b) ≡ true →
            n ≤ (if b then entry ceiling slot - entry before slot else 0)
        by zero e b t = omega arith
        by (suc n) e true t = let k : entry before slot + entry counts slot ≤ entry ceiling slot =
            below slot h (omega arith) in omega arith
        by (suc n) e false t = absurd (let k : suc n ≡ 0 = eqb-true (suc n) 0 (or_false (suc n == 0) t) in
            omega arith)
          where
            or_false : (b : Bool) → (b || false) ≡ true → b ≡ true
            or_false true h = refl
            or_false false h = h

pub of_area : (style : StyleValue) (takes : Area → Bool) (most : ℕ) (before ceiling counts : List ℕ) →
    Among counts (area_lists style takes most before ceiling) → IsOfArea style takes most before ceiling counts
of_area style takes most before ceiling counts a = by (of_count_lists most (limits style takes before ceiling) counts a)
  where
    by : AreCounts most (limits style takes before ceiling) counts →
        IsOfArea style takes most before ceiling counts
    by c =
        let long : length counts ≡ length (float_numbers style) =
        within_long (limits style takes before ceiling) counts c.within ∙ slots_long style _ in
        record {
          long = long;
          allowed = both _ _ (both _ _ (subst (λ (n : ℕ). (n == length (float_numbers style)) ≡ true) (sym long)
              (eq_refl (length (float_numbers style)))) (le-leb (total_count counts) most c.few))
              (all_of (λ (s : ℕ). (entry counts s == 0) || takes_slot style takes s)
              (range_with_len 0 (length counts))
              (λ s m. (let r = slot_below 0 (length counts) s m in let p : s < 0 + length counts = r.1 in
              taken s (omega arith) (takes_slot style takes s) refl)));
          below = λ slot h k. under slot h k (takes_slot style takes slot) refl;
        }
      where
        at : (slot : ℕ) → slot < length (float_numbers style) → entry counts slot
            ≤ (if takes_slot style takes slot then entry ceiling slot - entry before slot else 0)
        at slot h =
            let e : entry (limits style takes before ceiling) slot
            ≡ (if takes_slot style takes slot then entry ceiling slot - entry before slot else 0) =
            limit_is style takes before ceiling slot h in
            let k : entry counts slot ≤ entry (limits style takes before ceiling) slot =
            within_at (limits style takes before ceiling) counts c.within slot in
            omega arith

        taken : (slot : ℕ) → slot < length (float_numbers style) → (b : Bool) → b ≡ takes_slot style takes slot →
            ((entry counts slot == 0) || b) ≡ true
        taken slot h true e = or_true (entry counts slot == 0)
          where
            or_true : (b : Bool) → (b || true) ≡ true
            or_true true = refl
            or_true false = refl
        taken slot h false e =
            let k : entry counts slot ≤ (if false then entry ceiling slot - entry before slot else 0) =
            subst (λ (b : Bool). entry counts slot ≤ (if b then entry ceiling slot - entry before slot else 0))
            (sym e) (at slot h) in
            let z : entry counts slot ≡ 0 = omega arith in
            subst (λ (n : ℕ). ((n == 0) || false) ≡ true) (sym z) refl

        under : (slot : ℕ) → slot < length (float_numbers style) → 0 < entry counts slot → (b : Bool) →
            b ≡ takes_slot style takes slot → entry before slot + entry counts slot ≤ entry ceiling slot
        under slot h k true e =
            let l : entry counts slot ≤ (if true then entry ceiling slot - entry before slot else 0) =
            subst (λ (b : Bool). entry counts slot ≤ (if b then entry ceiling slot - entry before slot else 0))
            (sym e) (at slot h) in
            omega arith
        under slot h k false e =
            let l : entry counts slot ≤ (if false then entry ceiling slot - entry before slot else 0) =
            subst (λ (b : Bool). entry counts slot ≤ (if b then entry ceiling slot - entry before slot else 0))
            (sym e) (at slot h) in
            absurd (omega arith)

-- ---- no floats

pub zeros_entry : (style : StyleValue) (slot : ℕ) → slot < length (float_numbers style) →
    entry (zeros style) slot ≡ 0
zeros_entry style slot h = entry_slots style (λ (s : ℕ). 0) slot h

zero_map : (f k : ℕ) → total_count (map (λ (slot : ℕ). 0) (range_with_len f k)) ≡ 0
zero_map f zero = refl
zero_map f (suc k) = let r : total_count (map (λ (slot : ℕ). 0) (range_with_len (f + 1) k)) ≡ 0 =
    zero_map (f + 1) k in
    let s : total_count (0 ∷ map (λ (slot : ℕ). 0) (range_with_len (f + 1) k))
    ≡ 0 + total_count (map (λ (slot : ℕ). 0) (range_with_len (f + 1) k)) =
    total_cons 0 (map (λ (slot : ℕ). 0) (range_with_len (f + 1) k)) in
    omega arith

pub zeros_total : (style : StyleValue) → total_count (zeros style) ≡ 0
zeros_total style = zero_map 0 (length (float_numbers style))

are_zeros : (counts : List ℕ) (f k : ℕ) → length counts ≡ k → total_count counts ≡ 0 →
    counts ≡ map (λ (slot : ℕ). 0) (range_with_len f k)
are_zeros [] f zero l t = refl
are_zeros [] f (suc k) l t = absurd (omega arith)
are_zeros (n ∷ counts) f zero l t = absurd (omega arith)
are_zeros (n ∷ counts) f (suc k) l t =
    let s : total_count (n ∷ counts) ≡ n + total_count counts = total_cons n counts in
    let z : n ≡ 0 = omega arith in
    let r : counts ≡ map (λ (slot : ℕ). 0) (range_with_len (f + 1) k) =
    are_zeros counts (f + 1) k (omega arith) (omega arith) in
    cc

pub zeros_are : (style : StyleValue) (counts : List ℕ) → length counts ≡ length (float_numbers style) →
    total_count counts ≡ 0 → counts ≡ zeros style
zeros_are style counts l t = are_zeros counts 0 (length (float_numbers style)) l t

-- a count is no more than the sum
pub entry_few : (counts : List ℕ) (slot : ℕ) → entry counts slot ≤ total_count counts
entry_few [] slot = omega arith
entry_few (n ∷ counts) zero = let s : total_count (n ∷ counts) ≡ n + total_count counts = total_cons n counts in
    omega arith
entry_few (n ∷ counts) (suc slot) =
    let s : total_count (n ∷ counts) ≡ n + total_count counts = total_cons n counts in
    let r : entry counts slot ≤ total_count counts = entry_few counts slot in
    omega arith

pub zeros_allowed : (style : StyleValue) (takes : Area → Bool) (most : ℕ) →
    is_area_allowed style takes most (zeros style) ≡ true
zeros_allowed style takes most =
    let t : total_count (zeros style) ≡ 0 = zeros_total style in
    both _ _ (both _ _ (subst (λ (n : ℕ). (n == length (float_numbers style)) ≡ true)
    (sym (slots_long style (λ (slot : ℕ). 0))) (eq_refl (length (float_numbers style))))
    (le-leb (total_count (zeros style)) most (omega arith)))
    (all_of (λ (s : ℕ). (entry (zeros style) s == 0) || takes_slot style takes s)
    (range_with_len 0 (length (zeros style))) (λ s m. none s))
  where
    none : (slot : ℕ) → ((entry (zeros style) slot == 0) || takes_slot style takes slot) ≡ true
    none slot =
        let t : total_count (zeros style) ≡ 0 = zeros_total style in
        let k : entry (zeros style) slot ≤ total_count (zeros style) = entry_few (zeros style) slot in
        let z : entry (zeros style) slot ≡ 0 = omega arith in
        subst (λ (n : ℕ). ((n == 0) || takes_slot style takes slot) ≡ true) (sym z) refl
