-- What is found in the list of all ages is what is told class by class.
use Rattle.std.proofs.Common.{◌≡◌, refl, ap, ◌∙◌, ℕ, zero, suc, ◌+◌, ◌-◌, List, [], ◌∷◌, ◌++◌, map, length, take, drop, Bool}
use Rattle.std.specs.Prelude.{◌&&◌, nat_lt, slice_index, ℤ, pos, ◌+ℤ◌}
use Rattle.std.specs.List.{flat_map, list_all, range_with_len}
use Rattle.pg_list.specs.declared.galley.Place.{Place}
use Rattle.pg_plan.specs.declared.states.State.{State}
use Rattle.pg_list.specs.Whole.{whole_sum_by}
use Rattle.pg_rules.specs.Floats.{distance_table, entry, float_numbers, slots}
use Rattle.pg_rules.specs.Room.{Document}
use Rattle.law_moves.specs.Ages.{ages_left, float_cost, line_of, may_wait}
use Rattle.law_moves.specs.Line.{cost_by, flat_line, left_by, line_counts, may_by, taken_counts}

take_front : (xs ys : List ℕ) → take (length xs) (xs ++ ys) ≡ xs
take_front [] ys = refl
take_front (x ∷ xs) ys = ap (λ zs. x ∷ zs) (take_front xs ys)

drop_front : (xs ys : List ℕ) → drop (length xs) (xs ++ ys) ≡ ys
drop_front [] ys = refl
drop_front (x ∷ xs) ys = drop_front xs ys

module _ (line : ℕ → List ℕ) (taken : ℕ → ℕ) where
  left_is : (pages : ℕ) (slots : List ℕ) →
      left_by pages (map (λ (slot : ℕ). length (line slot)) slots) (map taken slots) (flat_map line slots)
      ≡ flat_map (λ (slot : ℕ). map (λ (age : ℕ). age + pages) (drop (taken slot) (line slot))) slots
  left_is pages [] = refl
  left_is pages (slot ∷ slots) =
      ap (λ (ages : List ℕ). map (λ (age : ℕ). age + pages) (drop (taken slot) ages)
      ++ left_by pages (map (λ (s : ℕ). length (line s)) slots) (map taken slots)
      (drop (length (line slot)) (line slot ++ flat_map line slots))) (take_front (line slot) (flat_map line slots))
      ∙ ap (λ (ages : List ℕ). map (λ (age : ℕ). age + pages) (drop (taken slot) (line slot))
      ++ left_by pages (map (λ (s : ℕ). length (line s)) slots) (map taken slots) ages)
      (drop_front (line slot) (flat_map line slots))
      ∙ ap (λ (ages : List ℕ). map (λ (age : ℕ). age + pages) (drop (taken slot) (line slot)) ++ ages)
      (left_is pages slots)

  may_is : (limit : ℕ → ℕ) (pages f k : ℕ) →
      may_by limit pages f (map (λ (slot : ℕ). length (line slot)) (range_with_len f k))
      (map taken (range_with_len f k)) (flat_map line (range_with_len f k))
      ≡ list_all (λ (slot : ℕ). list_all (λ (age : ℕ). nat_lt (age + pages) (limit slot))
      (drop (taken slot) (line slot))) (range_with_len f k)
  may_is limit pages f zero = refl
  may_is limit pages f (suc k) =
      ap (λ (ages : List ℕ). list_all (λ (age : ℕ). nat_lt (age + pages) (limit f)) (drop (taken f) ages)
      && may_by limit pages (f + 1) (map (λ (s : ℕ). length (line s)) (range_with_len (f + 1) k))
      (map taken (range_with_len (f + 1) k))
      (drop (length (line f)) (line f ++ flat_map line (range_with_len (f + 1) k))))
      (take_front (line f) (flat_map line (range_with_len (f + 1) k)))
      ∙ ap (λ (ages : List ℕ). list_all (λ (age : ℕ). nat_lt (age + pages) (limit f)) (drop (taken f) (line f))
      && may_by limit pages (f + 1) (map (λ (s : ℕ). length (line s)) (range_with_len (f + 1) k))
      (map taken (range_with_len (f + 1) k)) ages) (drop_front (line f) (flat_map line (range_with_len (f + 1) k)))
      ∙ ap (λ (b : Bool). list_all (λ (age : ℕ). nat_lt (age + pages) (limit f)) (drop (taken f) (line f)) && b)
      (may_is limit pages (f + 1) k)

  cost_is : (table : ℕ → List ℕ) (f k : ℕ) →
      cost_by table f (map (λ (slot : ℕ). length (line slot)) (range_with_len f k))
      (map taken (range_with_len f k)) (flat_map line (range_with_len f k))
      ≡ whole_sum_by (λ (slot : ℕ). whole_sum_by (λ (age : ℕ). pos (slice_index (table slot) age))
      (take (taken slot) (line slot))) (range_with_len f k)
  cost_is table f zero = refl
  cost_is table f (suc k) =
      ap (λ (ages : List ℕ). whole_sum_by (λ (age : ℕ). pos (slice_index (table f) age)) (take (taken f) ages)
      +ℤ cost_by table (f + 1) (map (λ (s : ℕ). length (line s)) (range_with_len (f + 1) k))
      (map taken (range_with_len (f + 1) k))
      (drop (length (line f)) (line f ++ flat_map line (range_with_len (f + 1) k))))
      (take_front (line f) (flat_map line (range_with_len (f + 1) k)))
      ∙ ap (λ (ages : List ℕ). whole_sum_by (λ (age : ℕ). pos (slice_index (table f) age)) (take (taken f) (line f))
      +ℤ cost_by table (f + 1) (map (λ (s : ℕ). length (line s)) (range_with_len (f + 1) k))
      (map taken (range_with_len (f + 1) k)) ages) (drop_front (line f) (flat_map line (range_with_len (f + 1) k)))
      ∙ ap (λ (z : ℤ). whole_sum_by (λ (age : ℕ). pos (slice_index (table f) age)) (take (taken f) (line f)) +ℤ z)
      (cost_is table (f + 1) k)
