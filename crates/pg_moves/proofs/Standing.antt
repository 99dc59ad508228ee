-- Whether a column without text may stay.
use Rattle.std.proofs.Common.{◌≡◌, refl, sym, ap, ◌∙◌, ℕ, zero, suc, ◌+◌, ◌≤◌, List, [], ◌∷◌, ◌++◌, length, take, drop, Bool, true, false, ℤ, pos, arith}
use Rattle.std.specs.Prelude.{◌==◌, ◌&&◌, ◌||◌, int_le, is_some, nat_lt, if◌then◌else◌, unwrap_or, ◌≤ℤ◌, ◌+ℤ◌, ◌-ℤ◌, Option}
use Rattle.std.proofs.lemmas.Bool.{eqb-true}
use Rattle.std.proofs.lemmas.Int.{ints}
use Rattle.std.proofs.lemmas.List.{append-nil}
use Rattle.pg_plan.specs.declared.pages.PageMove.{PageMove}
use Rattle.pg_plan.specs.declared.states.State.{State}
use Rattle.pg_style.specs.Values.{AreaRuleValue}
use Rattle.pg_rules.specs.Floats.{area_height, dealt_from, entry, float_numbers, floats, plus_counts, total_count}
use Rattle.pg_rules.specs.Follow.{turns}
use Rattle.pg_rules.specs.Room.{Document, extra}
use Rattle.pg_table.specs.declared.step.Step.{Step}
use Rattle.pg_lemmas.proofs.Bools.{both_ways, by_bool, if_false, if_true}
use Rattle.pg_lemmas.proofs.Numbers.{less_of, less_true, not_less}
use Rattle.law_places.proofs.Tests.{int_le_of, le_int}
use Rattle.law_columns.proofs.BoundCounts.{entry_beyond}
use Rattle.pg_layouts.specs.Layouts.{zeros}
use Rattle.pg_layouts.proofs.Areas.{slots_long, zeros_entry}
use Rattle.law_moves.specs.Ages.{may_wait}
use Rattle.law_moves.specs.Listed.{column_fits, listed_stay, placed_with, stays_on}
use Rattle.law_moves.specs.Steps.{area_of, wide_of}
use Rattle.pg_rooms.specs.Laid.{IsFloatLaid, laid_of}
use Rattle.pg_moves.specs.Stepping.{can_stand, stay_in}
use Rattle.pg_rooms.specs.declared.laid.Laid.{Laid}

-- ---- an area without floats

none_at : (doc : Document) (slot : ℕ) → entry (zeros doc.style) slot ≡ 0
none_at doc slot = by_bool (nat_lt slot (length (float_numbers doc.style)))
    (λ t. zeros_entry doc.style slot (less_true _ _ t))
    (λ f. entry_beyond (zeros doc.style) slot (let l : length (zeros doc.style) ≡ length (float_numbers doc.style) =
    slots_long doc.style (λ (s : ℕ). 0) in let n : length (float_numbers doc.style) ≤ slot = not_less _ _ f in
    omega (arith, l, n)))

none_dealt : (k : ℕ) (lists : List (List ℤ)) (before counts : List ℕ) → ((slot : ℕ) → entry counts slot ≡ 0) →
    dealt_from k lists before counts ≡ []
none_dealt k [] before counts h = refl
none_dealt k (sizes ∷ lists) before counts h =
    ap (λ (n : ℕ). take n (drop (entry before k) sizes) ++ dealt_from (k + 1) lists before counts) (h k)
    ∙ none_dealt (k + 1) lists before counts h

no_area : (doc : Document) (rule : AreaRuleValue) (before counts : List ℕ) → counts ≡ zeros doc.style →
    area_of doc rule before counts ≡ pos 0
no_area doc rule before counts e = ap (area_of doc rule before) e
    ∙ ap (area_height rule) (none_dealt 0 (floats doc.blocks doc.style) before (zeros doc.style) (none_at doc))

-- ---- whether it can stand

gap_is : (n : ℕ) (t w : ℤ) → (if nat_lt 0 n then t else w) ≡ (if n == 0 then w else t)
gap_is zero t w = refl
gap_is (suc n) t w = if_true (nat_lt 0 (suc n)) t w (less_of 0 (suc n) (omega arith))
    ∙ sym (if_false (suc n == 0) w t (by_bool (suc n == 0)
    (λ e. absurd (let z : suc n ≡ 0 = eqb-true (suc n) 0 e in omega (arith, z))) (λ f. f)))

fits_by : (full w t b g room : ℤ) → room ≡ ((full -ℤ w) -ℤ t) -ℤ b → b ≡ pos 0 →
    int_le (pos 0) (room +ℤ g) ≡ int_le ((w +ℤ t) -ℤ g) full
fits_by full w t b g room e z = both_ways (int_le (pos 0) (room +ℤ g)) (int_le ((w +ℤ t) -ℤ g) full)
    (λ h. int_le_of ((w +ℤ t) -ℤ g) full
    (let k : pos 0 ≤ℤ (room +ℤ g) = le_int (pos 0) (room +ℤ g) h in omega (arith, ints, e, z, k)))
    (λ h. int_le_of (pos 0) (room +ℤ g)
    (let k : ((w +ℤ t) -ℤ g) ≤ℤ full = le_int ((w +ℤ t) -ℤ g) full h in omega (arith, ints, e, z, k)))

-- the areas leave the page some room, but for the gap below the last
pub stands_is : (doc : Document) (u : State) (it : Laid) (room : ℤ) (filled : Bool) → IsFloatLaid doc u it →
    room ≡ it.room.size → filled ≡ nat_lt 0 (total_count it.layout.top) →
    ((filled || is_some it.wide)
    && int_le (pos 0) (room +ℤ (if filled then doc.style.top.gap.size else doc.style.wide.gap.size)))
    ≡ can_stand doc u it.layout
stands_is doc u it room filled is r f = same filled (nat_lt 0 (total_count it.layout.top)) it.wide
    (wide_of doc u it.layout.wide)
    (int_le (pos 0) (room +ℤ (if filled then doc.style.top.gap.size else doc.style.wide.gap.size)))
    (column_fits doc u it.layout) f (ap (λ (x : Laid). x.wide) is.is)
    (ap (λ (z : ℤ). int_le (pos 0) (z +ℤ (if filled then doc.style.top.gap.size else doc.style.wide.gap.size))) r
    ∙ (ap (λ (b : Bool). int_le (pos 0) (it.room.size +ℤ (if b then doc.style.top.gap.size else doc.style.wide.gap.size))) f
    ∙ (ap (λ (gap : ℤ). int_le (pos 0) (it.room.size +ℤ gap))
    (gap_is (total_count it.layout.top) doc.style.top.gap.size doc.style.wide.gap.size)
    ∙ fits_by (doc.style.height +ℤ extra doc.style it.layout.run) (unwrap_or (wide_of doc u it.layout.wide) (pos 0))
    (area_of doc doc.style.top (plus_counts doc.style u.placed it.layout.wide) it.layout.top)
    (area_of doc doc.style.bottom
    (plus_counts doc.style (plus_counts doc.style u.placed it.layout.wide) it.layout.top) it.layout.bottom)
    (if total_count it.layout.top == 0 then doc.style.wide.gap.size else doc.style.top.gap.size) it.room.size
    (ap (λ (x : Laid). x.room.size) is.is)
    (no_area doc doc.style.bottom
    (plus_counts doc.style (plus_counts doc.style u.placed it.layout.wide) it.layout.top) it.layout.bottom is.bottom))))
  where
    same : (a a' : Bool) (w w' : Option ℤ) (c c' : Bool) → a ≡ a' → w ≡ w' → c ≡ c' →
        ((a || is_some w) && c) ≡ ((a' || is_some w') && c')
    same a a' w w' c c' p q r = cc

-- ---- whether it stays

module _ (doc : Document) (u : State) (it : Laid) (is : it ≡ laid_of doc u it.layout) where
  abbrev waits : Bool
  waits = may_wait doc u u.place (placed_with doc.style u.placed it.layout) (turns doc.style u)

  stays_is : stays_on doc u it.layout ≡ (can_stand doc u it.layout && waits)
  stays_is = grouped (nat_lt 0 (total_count it.layout.top) || is_some (wide_of doc u it.layout.wide))
      (column_fits doc u it.layout) waits
    where
      grouped : (a b c : Bool) → (a && (b && c)) ≡ ((a && b) && c)
      grouped true b c = refl
      grouped false b c = refl

  not_in : stays_on doc u it.layout ≡ false → (old : List (Step State PageMove)) → old ≡ old ++ stay_in doc u it
  not_in f old = sym (append-nil old)
      ∙ ap (λ (steps : List (Step State PageMove)). old ++ steps)
      (sym (if_false (stays_on doc u it.layout) (listed_stay doc u it.layout ∷ []) [] f))

  -- what cannot stand does not stay
  pub not_standing : (old : List (Step State PageMove)) → can_stand doc u it.layout ≡ false →
      old ≡ old ++ stay_in doc u it
  not_standing old f = not_in (stays_is ∙ ap (λ (b : Bool). b && waits) f) old

  after_is : it.after ≡ placed_with doc.style u.placed it.layout
  after_is = ap (λ (x : Laid). x.after) is

  -- nor what leaves a float too old
  pub not_stayed : (old : List (Step State PageMove)) → can_stand doc u it.layout ≡ true →
      may_wait doc u u.place it.after (turns doc.style u) ≡ false → old ≡ old ++ stay_in doc u it
  not_stayed old t f = not_in (stays_is ∙ (ap (λ (b : Bool). b && waits) t
      ∙ (ap (λ (after : List ℕ). may_wait doc u u.place after (turns doc.style u)) (sym after_is) ∙ f))) old

  -- the rest does
  pub stayed : (old new : List (Step State PageMove)) (step : Step State PageMove) →
      can_stand doc u it.layout ≡ true → may_wait doc u u.place it.after (turns doc.style u) ≡ true →
      step ≡ listed_stay doc u it.layout → new ≡ old ++ step ∷ [] → new ≡ old ++ stay_in doc u it
  stayed old new step t w e n = n ∙ (ap (λ (x : Step State PageMove). old ++ x ∷ []) e
      ∙ ap (λ (steps : List (Step State PageMove)). old ++ steps)
      (sym (if_true (stays_on doc u it.layout) (listed_stay doc u it.layout ∷ []) []
      (stays_is ∙ (ap (λ (b : Bool). b && waits) t
      ∙ (ap (λ (after : List ℕ). may_wait doc u u.place after (turns doc.style u)) (sym after_is) ∙ w))))))
