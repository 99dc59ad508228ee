-- Counts below a ceiling can be added.
use Rattle.std.proofs.Common.{◌≡◌, refl, ap, subst, ◌∙◌, ℕ, zero, suc, ◌+◌, ◌≤◌, ◌<◌, inl, inr, List, [], ◌∷◌, length, map, Bool, true, false, Fits, w16, get_or, arith}
use Rattle.std.specs.Prelude.{Contains, Result, Ok, Err, IfOk, ◌==◌, if◌then◌else◌, nat_lt, replicate}
use Rattle.std.specs.List.{range_with_len}
use Rattle.pg_plan.specs.declared.states.State.{State}
use Rattle.law_places.proofs.Among.{Among}
use Rattle.pg_style.specs.Values.{StyleValue}
use Rattle.pg_style.specs.declared.style.Area.{Area}
use Rattle.pg_rules.specs.Floats.{entry, float_numbers, plus_counts, takes_wide}
use Rattle.pg_floats.specs.Counts.{cap, capped_sum}
use Rattle.pg_lemmas.proofs.Bools.{by_bool}
use Rattle.pg_lemmas.proofs.Numbers.{less_true, not_less}
use Rattle.pg_layouts.specs.Behind.{bare}
use Rattle.pg_layouts.specs.Layouts.{area_lists, wides_of, zeros}
use Rattle.pg_layouts.proofs.Areas.{IsOfArea, of_area, slots_long, zeros_entry}
use Rattle.law_columns.proofs.BoundCounts.{entry_beyond}
use Rattle.law_places.proofs.Members.{contains_among}
use Rattle.pg_layouts.specs.Fit.{Fit}

-- sums of 16 bits are those of counts
sums_are : (a b slots : List ℕ) → Fit a b → map (λ (slot : ℕ). cap (entry a slot + entry b slot)) slots
    ≡ map (λ (slot : ℕ). entry a slot + entry b slot) slots
sums_are a b [] fit = refl
sums_are a b (slot ∷ slots) fit =
    let few : entry a slot + entry b slot < 65536 = fit slot in
    let here : cap (entry a slot + entry b slot) ≡ entry a slot + entry b slot = omega (arith, few) in
    ap (λ (n : ℕ). n ∷ map (λ (slot : ℕ). cap (entry a slot + entry b slot)) slots) here
    ∙ ap (λ (ns : List ℕ). (entry a slot + entry b slot) ∷ ns) (sums_are a b slots fit)

pub on_sums : {E : Type 0} (style : StyleValue) (slots : ℕ) (a b : List ℕ) (r : Result (List ℕ) E) →
    slots ≡ length (float_numbers style) → Fit a b → IfOk r (λ counts. counts ≡ capped_sum slots a b) →
    IfOk r (λ counts. counts ≡ plus_counts style a b)
on_sums style slots a b (Err e) is fit h = tt
on_sums style slots a b (Ok counts) is fit h = h ∙ (sums_are a b (range_with_len 0 slots) fit
    ∙ ap (λ (n : ℕ). map (λ (slot : ℕ). entry a slot + entry b slot) (range_with_len 0 n)) is)

-- counts of 16 bits
abbrev pub Short : List ℕ → Type 0
Short counts = (slot : ℕ) → entry counts slot < 65536

pub fits_below : (style : StyleValue) (takes : Area → Bool) (most : ℕ) (before ceiling : List ℕ) → Short before →
    Short ceiling → (counts : List ℕ) → Contains (area_lists style takes most before ceiling) counts →
    Fit before counts
fits_below style takes most before ceiling short high counts c slot =
    by (of_area style takes most before ceiling counts
    (contains_among (area_lists style takes most before ceiling) counts c))
  where
    by : IsOfArea style takes most before ceiling counts → entry before slot + entry counts slot < 65536
    by o = by_bool (nat_lt slot (length (float_numbers style)))
        (λ t. by_bool (nat_lt 0 (entry counts slot))
        (λ s. (let k : entry before slot + entry counts slot ≤ entry ceiling slot =
        o.below slot (less_true _ _ t) (less_true _ _ s) in
        let m : entry ceiling slot < 65536 = high slot in omega arith))
        (λ s. (let k : entry counts slot ≤ 0 = not_less _ _ s in
        let m : entry before slot < 65536 = short slot in omega arith)))
        (λ f. (let n : length (float_numbers style) ≤ slot = not_less _ _ f in
        let l : length counts ≡ length (float_numbers style) = o.long in
        let z : entry counts slot ≡ 0 = entry_beyond counts slot (omega arith) in
        let m : entry before slot < 65536 = short slot in omega arith))

pub short_of : (counts : List ℕ) → ((i : ℕ) → Fits w16 (get_or counts i 0)) → Short counts
short_of counts a slot = (a slot).fits

-- no float of any class
pub zeros_made : (style : StyleValue) (slots : ℕ) → slots ≡ length (float_numbers style) →
    replicate {A = ℕ} slots 0 ≡ zeros style
zeros_made style slots e = made 0 slots
    ∙ ap (λ (n : ℕ). map (λ (slot : ℕ). 0) (range_with_len 0 n)) e
  where
    made : (from n : ℕ) → replicate {A = ℕ} n 0 ≡ map (λ (slot : ℕ). 0) (range_with_len from n)
    made from zero = refl
    made from (suc n) = ap (λ (ns : List ℕ). 0 ∷ ns) (made (from + 1) n)

fits_none : (style : StyleValue) (before : List ℕ) → Short before → Fit before (zeros style)
fits_none style before short slot =
    let few : entry before slot < 65536 = short slot in
    let none : entry (zeros style) slot ≡ 0 = by_bool (nat_lt slot (length (float_numbers style)))
    (λ t. zeros_entry style slot (less_true _ _ t))
    (λ f. entry_beyond (zeros style) slot (let l : length (zeros style) ≡ length (float_numbers style) =
    slots_long style (λ (s : ℕ). 0) in let n : length (float_numbers style) ≤ slot = not_less _ _ f in
    omega arith)) in
    omega arith

-- the counts of wide floats that a page may have can be added to those that are placed
pub fits_wides : (style : StyleValue) (u : State) (ceiling : List ℕ) → Short u.placed → Short ceiling →
    (wide : List ℕ) → Contains (wides_of (bare style) u ceiling) wide → Fit u.placed wide
fits_wides style u ceiling short high wide c = by (u.column == 1) c
  where
    one : Among wide (zeros style ∷ []) → Fit u.placed wide
    one (inl e) = subst (Fit u.placed) e (fits_none style u.placed short)
    one (inr a) = absurd a

    by : (b : Bool) → Contains (if b then area_lists style takes_wide style.wide.count u.placed ceiling
        else zeros style ∷ []) wide → Fit u.placed wide
    by true d = fits_below style takes_wide style.wide.count u.placed ceiling short high wide d
    by false d = one (contains_among (zeros style ∷ []) wide d)
