-- All floats are placed where each slot has placed those that are called before the end.
use Rattle.std.proofs.Common.{◌≡◌, refl, sym, ap, ◌∙◌, subst, ℕ, zero, suc, ◌+◌, ◌^◌, ◌≤◌, arith, List, [], ◌∷◌, length, map, take, Bool, ℤ}
use Rattle.std.specs.Prelude.{◌==◌, ◌&&◌}
use Rattle.std.specs.List.{AllByRecursion, enumerate_from, list_all, range_with_len}
use Rattle.std.proofs.lemmas.Bool.{eqb-true}
use Rattle.std.proofs.lemmas.List.{append-nil}
use Rattle.pg_list.specs.declared.blocks.Block.{Block}
use Rattle.pg_list.specs.declared.item.Item.{Item}
use Rattle.pg_list.specs.Flat.{end_of, flat, items_before}
use Rattle.pg_rules.specs.Floats.{called, entry, float_numbers, floats, sizes_of}
use Rattle.pg_rules.specs.Legal.{has_dealt_all}
use Rattle.pg_rules.specs.Room.{Document}
use Rattle.pg_lemmas.proofs.Bools.{both_ways}
use Rattle.pg_lemmas.proofs.Numbers.{eq_yes}
use Rattle.law_places.proofs.Among.{all_same}
use Rattle.pg_floats.specs.Counts.{cap, capped}
use Rattle.pg_floats.proofs.Capped.{AreFew, entry_capped}

take_whole : {X : Type 0} (xs : List X) → take (length xs) xs ≡ xs
take_whole [] = refl
take_whole (x ∷ xs) = ap (λ ys. x ∷ ys) (take_whole xs)

all_before : (blocks : List Block) → items_before blocks (end_of blocks) ≡ flat blocks []
all_before blocks = append-nil (flat (take (length blocks) blocks) [])
    ∙ ap (λ (bs : List Block). flat bs []) (take_whole blocks)

enumerated : (placed whole : List ℕ) (items : List Item) (k : ℕ) (xs : List ℕ) →
    ((i : ℕ) → entry whole (k + i) ≡ entry (map (λ (number : ℕ). length (sizes_of number items)) xs) i) →
    list_all (λ (it : ℕ × List ℤ). entry placed it.0 == length it.1)
    (enumerate_from k (map (λ (number : ℕ). sizes_of number items) xs))
    ≡ list_all (λ (slot : ℕ). entry placed slot == entry whole slot) (range_with_len k (length xs))
enumerated placed whole items k [] same = refl
enumerated placed whole items k (x ∷ xs) same =
    let z : k + 0 ≡ k = omega arith in
    let head : entry whole k ≡ length (sizes_of x items) = ap (entry whole) (sym z) ∙ same 0 in
    ap (λ (n : ℕ). (entry placed k == n) && list_all (λ (it : ℕ × List ℤ). entry placed it.0 == length it.1)
    (enumerate_from (k + 1) (map (λ (number : ℕ). sizes_of number items) xs))) (sym head)
    ∙ ap (λ (b : Bool). (entry placed k == entry whole k) && b)
    (enumerated placed whole items (k + 1) xs (λ i. next i))
  where
    next : (i : ℕ) → entry whole (k + 1 + i) ≡ entry (map (λ (number : ℕ). length (sizes_of number items)) xs) i
    next i = let e : k + 1 + i ≡ k + suc i = omega arith in ap (entry whole) e ∙ same (suc i)

same_count : (n l : ℕ) → l ≤ 2 ^ 12 → (cap n == l) ≡ (n == l)
same_count n l h = both_ways _ _ (λ e. eq_yes n l (let k : cap n ≡ l = eqb-true _ _ e in omega (arith, k, h)))
    (λ e. eq_yes (cap n) l (let k : n ≡ l = eqb-true _ _ e in omega (arith, k, h)))

few_called : (items : List Item) (xs : List ℕ) (slot : ℕ) →
    AllByRecursion (λ (sizes : List ℤ). length sizes ≤ 2 ^ 12) (map (λ (number : ℕ). sizes_of number items) xs) →
    entry (map (λ (number : ℕ). length (sizes_of number items)) xs) slot ≤ 2 ^ 12
few_called items [] slot few = omega arith
few_called items (x ∷ xs) zero few = few.0
few_called items (x ∷ xs) (suc slot) few = few_called items xs slot few.1

module _ (doc : Document) where
  abbrev total : List ℕ
  total = called doc.blocks doc.style (end_of doc.blocks)

  whole : total ≡ map (λ (number : ℕ). length (sizes_of number (flat doc.blocks []))) (float_numbers doc.style)
  whole = ap (λ (items : List Item). map (λ (number : ℕ). length (sizes_of number items)) (float_numbers doc.style))
      (all_before doc.blocks)

  pub dealt_all : (placed : List ℕ) → list_all (λ (slot : ℕ).
      entry placed slot == entry (called doc.blocks doc.style (end_of doc.blocks)) slot)
      (range_with_len 0 (length (float_numbers doc.style))) ≡ has_dealt_all doc placed
  dealt_all placed = sym (enumerated placed total (flat doc.blocks []) 0 (float_numbers doc.style) (λ i. start i))
    where
      start : (i : ℕ) → entry total (0 + i)
          ≡ entry (map (λ (number : ℕ). length (sizes_of number (flat doc.blocks []))) (float_numbers doc.style)) i
      start i = let e : 0 + i ≡ i = omega arith in ap (entry total) e ∙ ap (λ (xs : List ℕ). entry xs i) whole

  -- the same of counts of 16 bits
  pub dealt_is : AreFew (floats doc.blocks doc.style) → (placed : List ℕ) →
      list_all (λ (slot : ℕ).
      entry (capped placed) slot == entry (called doc.blocks doc.style (end_of doc.blocks)) slot)
      (range_with_len 0 (length (float_numbers doc.style))) ≡ has_dealt_all doc placed
  dealt_is few placed =
      all_same (λ (slot : ℕ). entry (capped placed) slot == entry total slot)
      (λ (slot : ℕ). entry placed slot == entry total slot) (range_with_len 0 (length (float_numbers doc.style)))
      (λ slot among. ap (λ (n : ℕ). n == entry total slot) (entry_capped placed slot)
      ∙ same_count (entry placed slot) (entry total slot) (subst (λ (xs : List ℕ). entry xs slot ≤ 2 ^ 12) (sym whole)
      (few_called (flat doc.blocks []) (float_numbers doc.style) slot few)))
      ∙ dealt_all placed
