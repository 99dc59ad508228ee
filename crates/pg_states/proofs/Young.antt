-- Slot by slot along the floats that wait.
use Rattle.std.proofs.Common.{◌≡◌, sym, ap, ◌∙◌, ℕ, zero, suc, ◌+◌, ◌-◌, ◌<◌, List, map, take, drop, arith, Bool, true, false}
use Rattle.std.specs.Prelude.{◌&&◌, nat_lt}
use Rattle.std.specs.List.{list_all, range_with_len}
use Rattle.law_moves.specs.StateTest.{young_by}

-- the ages of the first slot that is left, and those behind it
young_first : (limit f : ℕ → ℕ) (slot left : ℕ) (ages : List ℕ) → 0 < left →
    young_by limit slot (map f (range_with_len slot left)) ages
    ≡ (list_all (λ (age : ℕ). nat_lt age (limit slot)) (take (f slot) ages)
    && young_by limit (slot + 1) (map f (range_with_len (slot + 1) (left - 1))) (drop (f slot) ages))
young_first limit f slot zero ages h = absurd (omega (arith, h))
young_first limit f slot (suc n) ages h =
    let e : n ≡ suc n - 1 = omega arith in
    ap (λ (k : ℕ). list_all (λ (age : ℕ). nat_lt age (limit slot)) (take (f slot) ages)
    && young_by limit (slot + 1) (map f (range_with_len (slot + 1) k)) (drop (f slot) ages)) e

module _ (limit f : ℕ → ℕ) (slot left count : ℕ) (ages first : List ℕ) (within : Bool) (more : 0 < left)
    (counted : count ≡ f slot) (taken : first ≡ take count ages)
    (tested : within ≡ list_all (λ (age : ℕ). nat_lt age (limit slot)) first) where
  here : within ≡ list_all (λ (age : ℕ). nat_lt age (limit slot)) (take (f slot) ages)
  here = tested ∙ ap (list_all (λ (age : ℕ). nat_lt age (limit slot)))
      (taken ∙ ap (λ (n : ℕ). take n ages) counted)

  pub too_old : within ≡ false → young_by limit slot (map f (range_with_len slot left)) ages ≡ false
  too_old h = young_first limit f slot left ages more
      ∙ ap (λ (b : Bool). b && young_by limit (slot + 1) (map f (range_with_len (slot + 1) (left - 1)))
      (drop (f slot) ages)) (sym here ∙ h)

  pub young_enough : (behind : List ℕ) → behind ≡ drop count ages → within ≡ true →
      young_by limit (slot + 1) (map f (range_with_len (slot + 1) (left - 1))) behind
      ≡ young_by limit slot (map f (range_with_len slot left)) ages
  young_enough behind dropped h =
      ap (young_by limit (slot + 1) (map f (range_with_len (slot + 1) (left - 1))))
      (dropped ∙ ap (λ (n : ℕ). drop n ages) counted)
      ∙ sym (young_first limit f slot left ages more
      ∙ ap (λ (b : Bool). b && young_by limit (slot + 1) (map f (range_with_len (slot + 1) (left - 1)))
      (drop (f slot) ages)) (sym here ∙ h))

pub young_start : (limit f : ℕ → ℕ) (n m : ℕ) (ages ages' : List ℕ) → n ≡ m → ages ≡ ages' →
    young_by limit 0 (map f (range_with_len 0 n)) ages ≡ young_by limit 0 (map f (range_with_len 0 m)) ages'
young_start limit f n m ages ages' e h = ap (λ (k : ℕ). young_by limit 0 (map f (range_with_len 0 k)) ages) e
    ∙ ap (young_by limit 0 (map f (range_with_len 0 m))) h

pub young_end : (limit f : ℕ → ℕ) (slot left : ℕ) (ages : List ℕ) → left ≡ 0 →
    young_by limit slot (map f (range_with_len slot left)) ages ≡ true
young_end limit f slot left ages e = ap (λ (k : ℕ). young_by limit slot (map f (range_with_len slot k)) ages) e
