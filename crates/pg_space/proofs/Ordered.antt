-- Each list of entries has its labels in order.
use Rattle.std.proofs.Common.{◌≡◌, refl, subst, ℕ, ◌+◌, List, [], ◌∷◌, map, Bool, true, false, zero, suc, arith}
use Rattle.std.specs.Prelude.{if◌then◌else◌, slice_index_or, ⊤}
use Rattle.std.specs.List.Sorted.{IsPermutation, IsSortedBy, IsSortedByKey}
use Rattle.std.specs.Ordering.{is_lt}
use Rattle.std.proofs.lemmas.List.Sorted.{IsPermutation-cons, IsPermutation-middle, IsPermutation-refl, IsPermutation-sym, IsPermutation-trans, ranks_by}
use Rattle.law_columns.proofs.StateOrder.{states_total}
use Rattle.pg_plan.specs.declared.pages.PageMove.{PageMove}
use Rattle.pg_plan.specs.declared.states.Label.{Label}
use Rattle.pg_plan.specs.declared.states.State.{State}
use Rattle.pg_rules.specs.Frontier.{state_cmp}
use Rattle.law_space.specs.SpaceLaws.{label_of}
use Rattle.pg_table.specs.declared.table.Entry.{Entry}

module _ {X : Type 0} (lt : X → X → Bool) where
  -- x in front of the first that is not less
  abbrev put : X → List X → List X
  put x [] = x ∷ []
  put x (y ∷ ys) = if lt y x then y ∷ put x ys else x ∷ y ∷ ys

  abbrev in_order : List X → List X
  in_order [] = []
  in_order (x ∷ xs) = put x (in_order xs)

  -- the first of these is not less than x
  abbrev NotLess : X → List X → Type 0
  NotLess x [] = ⊤
  NotLess x (y ∷ ys) = lt y x ≡ false

  -- ---- the same elements

  put_all : (x : X) (ys : List X) → IsPermutation (x ∷ ys) (put x ys)
  put_all x [] = IsPermutation-refl (x ∷ [])
  put_all x (y ∷ ys) = by (lt y x) (put_all x ys)
    where
      by : (b : Bool) → IsPermutation (x ∷ ys) (put x ys) →
          IsPermutation (x ∷ y ∷ ys) (if b then y ∷ put x ys else x ∷ y ∷ ys)
      by true rest = IsPermutation-trans (x ∷ y ∷ ys) (y ∷ x ∷ ys) (y ∷ put x ys)
          (IsPermutation-sym (y ∷ x ∷ ys) (x ∷ y ∷ ys) (IsPermutation-middle (y ∷ []) x ys))
          (IsPermutation-cons y (x ∷ ys) (put x ys) rest)
      by false rest = IsPermutation-refl (x ∷ y ∷ ys)

  all_there : (xs : List X) → IsPermutation xs (in_order xs)
  all_there [] = IsPermutation-refl []
  all_there (x ∷ xs) = IsPermutation-trans (x ∷ xs) (x ∷ in_order xs) (put x (in_order xs))
      (IsPermutation-cons x xs (in_order xs) (all_there xs)) (put_all x (in_order xs))

  -- ---- in order

  sorted_more : (x : X) (ys : List X) → NotLess x ys → IsSortedBy lt ys → IsSortedBy lt (x ∷ ys)
  sorted_more x [] first rest k d low high = absurd (omega arith)
  sorted_more x (y ∷ ys) first rest zero d low high = first
  sorted_more x (y ∷ ys) first rest (suc k) d low high =
      let next : suc k + 1 ≡ suc (k + 1) = omega arith in
      rw next (rest k d (omega arith) (omega arith))

  sorted_rest : (x : X) (ys : List X) → IsSortedBy lt (x ∷ ys) → IsSortedBy lt ys
  sorted_rest x ys all k d low high =
      let next : suc k + 1 ≡ suc (k + 1) = omega arith in
      subst (λ (n : ℕ). lt (slice_index_or (x ∷ ys) n d) (slice_index_or ys k d) ≡ false) next
      (all (suc k) d (omega arith) (omega arith))

  sorted_first : (x : X) (ys : List X) → IsSortedBy lt (x ∷ ys) → NotLess x ys
  sorted_first x [] all = tt
  sorted_first x (y ∷ ys) all = all 0 x (omega arith) (omega arith)

  not_less_put : (y x : X) (zs : List X) → lt x y ≡ false → NotLess y zs → NotLess y (put x zs)
  not_less_put y x [] own rest = own
  not_less_put y x (z ∷ zs) own rest = by (lt z x)
    where
      by : (b : Bool) → NotLess y (if b then z ∷ put x zs else x ∷ z ∷ zs)
      by true = rest
      by false = own

  module _ (one_way : (x y : X) → lt x y ≡ true → lt y x ≡ false) where
    put_sorted : (x : X) (ys : List X) → IsSortedBy lt ys → IsSortedBy lt (put x ys)
    put_sorted x [] all = sorted_more x [] tt all
    put_sorted x (y ∷ ys) all = by (lt y x) refl (put_sorted x ys (sorted_rest y ys all))
      where
        by : (b : Bool) → lt y x ≡ b → IsSortedBy lt (put x ys) →
            IsSortedBy lt (if b then y ∷ put x ys else x ∷ y ∷ ys)
        by true less rest = sorted_more y (put x ys)
            (not_less_put y x ys (one_way y x less) (sorted_first y ys all)) rest
        by false less rest = sorted_more x (y ∷ ys) less all

    all_sorted : (xs : List X) → IsSortedBy lt (in_order xs)
    all_sorted [] = λ k d low high. absurd (omega arith)
    all_sorted (x ∷ xs) = put_sorted x (in_order xs) (all_sorted xs)

-- the labels of entries can be listed in the order of their states
pub listed : (es : List (Entry State PageMove)) →
    (labels : List Label) × (IsPermutation (map label_of es) labels
    × IsSortedByKey (λ (label : Label). label.state) state_cmp labels)
listed es =
    let less = λ (a b : Label). is_lt (state_cmp a.state b.state) in (
      in_order less (map label_of es),
      (
        all_there less (map label_of es),
        all_sorted less (ranks_by states_total (λ (label : Label). label.state)).one_way (map label_of es),
      ),
    )
