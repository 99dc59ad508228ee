-- An index that is added to groups.
use Rattle.std.proofs.Common.{◌≡◌, refl, sym, ap, ◌∙◌, subst, ℕ, zero, suc, ◌+◌, ◌<◌, ◌⊎◌, inl, inr, List, [], ◌∷◌, ◌++◌, length, map, arith}
use Rattle.std.specs.Prelude.{get_or, nat_lt, slice_set}
use Rattle.std.specs.List.{insert}
use Rattle.std.proofs.lemmas.List.{map-append}
use Rattle.pg_lemmas.proofs.Bools.{by_bool}
use Rattle.law_walk.specs.Best.{IsAmong}
use Rattle.law_walk.proofs.Complete.{among_left, among_right}
use Rattle.pg_candidates.specs.Groups.{IsAdded, indices_in, indices_of}
use Rattle.pg_candidates.specs.declared.order.Group.{Group}
use Rattle.pg_candidates.specs.declared.order.Ranked.{Ranked}

-- ---- beside other indices

in_either : (k : ℕ) (is js : List ℕ) → IsAmong k (is ++ js) → IsAmong k is ⊎ IsAmong k js
in_either k [] js a = inr a
in_either k (i ∷ is) js (inl e) = inl (inl e)
in_either k (i ∷ is) js (inr a) = elim (in_either k is js a) [ inl p ↦ inl (inr p) | inr p ↦ inr p ]

added_before : (i : ℕ) (old new js : List ℕ) → IsAdded i old new → IsAdded i (old ++ js) (new ++ js)
added_before i old new js a = record {
  there = among_left i new js a.there;
  stay = λ k m. elim (in_either k old js m) [
    | inl p ↦ among_left k new js (a.stay k p)
    | inr p ↦ among_right k new js p
  ];
}

added_behind : (i : ℕ) (is old new : List ℕ) → IsAdded i old new → IsAdded i (is ++ old) (is ++ new)
added_behind i is old new a = record {
  there = among_right i is new a.there;
  stay = λ k m. elim (in_either k is old m) [
    | inl p ↦ among_left k is new p
    | inr p ↦ among_right k is new (a.stay k p)
  ];
}

-- ---- in a group

abbrev at : Ranked → ℕ
at it = it.at

pushed : (old new : List Ranked) (it : Ranked) → new ≡ old ++ it ∷ [] → map at new ≡ map at old ++ it.at ∷ []
pushed old new it e = ap (map at) e ∙ map-append at old (it ∷ [])

-- in front of the first one, which goes behind the others
pub added_first : (old new : List Ranked) (first it : Ranked) → new ≡ old ++ first ∷ [] →
    IsAdded it.at (first.at ∷ map at old) (it.at ∷ map at new)
added_first old new first it e = record {
  there = inl refl;
  stay = λ k m. inr (subst (λ (is : List ℕ). IsAmong k is) (sym (pushed old new first e)) (turned k m));
}
  where
    turned : (k : ℕ) → IsAmong k (first.at ∷ map at old) → IsAmong k (map at old ++ first.at ∷ [])
    turned k (inl p) = among_right k (map at old) (first.at ∷ []) (inl p)
    turned k (inr p) = among_left k (map at old) (first.at ∷ []) p

-- behind the others
pub added_last : (old new : List Ranked) (first it : Ranked) → new ≡ old ++ it ∷ [] →
    IsAdded it.at (first.at ∷ map at old) (first.at ∷ map at new)
added_last old new first it e = subst (λ (is : List ℕ). IsAdded it.at (first.at ∷ map at old) (first.at ∷ is))
    (sym (pushed old new it e)) (record {
      there = inr (among_right it.at (map at old) (it.at ∷ []) (inl refl));
      stay = λ k m. among_left k (first.at ∷ map at old) (it.at ∷ []) m;
    })

-- behind all others
pub pushed_last : (old new : List Ranked) (it : Ranked) → new ≡ old ++ it ∷ [] → IsAdded it.at (map at old) (map at new)
pushed_last old new it e = subst (λ (is : List ℕ). IsAdded it.at (map at old) is) (sym (pushed old new it e)) (record {
  there = among_right it.at (map at old) (it.at ∷ []) (inl refl);
  stay = λ k m. among_left k (map at old) (it.at ∷ []) m;
})

-- ---- in groups

pub added_in : (groups : List Group) (k i : ℕ) (old new : Group) → k < length groups → old ≡ get_or groups k old →
    IsAdded i (indices_of old) (indices_of new) → IsAdded i (indices_in groups) (indices_in (slice_set groups k new))
added_in [] k i old new within is a = absurd (omega (arith, within))
added_in (g ∷ groups) zero i old new within is a =
    added_before i (indices_of g) (indices_of new) (indices_in groups)
    (subst (λ (it : Group). IsAdded i (indices_of it) (indices_of new)) is a)
added_in (g ∷ groups) (suc k) i old new within is a =
    added_behind i (indices_of g) (indices_in groups) (indices_in (slice_set groups k new))
    (added_in groups k i old new (omega (arith, within)) is a)

pub added_new : (groups : List Group) (k i : ℕ) (new : Group) → IsAmong i (indices_of new) →
    IsAdded i (indices_in groups) (indices_in (insert groups k new))
added_new groups zero i new a = record {
  there = among_left i (indices_of new) (indices_in groups) a;
  stay = λ k m. among_right k (indices_of new) (indices_in groups) m;
}
added_new [] (suc k) i new a = record {
  there = among_left i (indices_of new) [] a;
  stay = λ k m. absurd m;
}
added_new (g ∷ groups) (suc k) i new a =
    added_behind i (indices_of g) (indices_in groups) (indices_in (insert groups k new)) (added_new groups k i new a)

-- each index up to one more
pub one_added : (old new : List ℕ) (n : ℕ) → ((i : ℕ) → i < n → IsAmong i old) → IsAdded n old new → (i : ℕ) →
    i < n + 1 → IsAmong i new
one_added old new n all a i h = by_bool (nat_lt i n)
    (λ t. let less : i < n = grind arith in a.stay i (all i less))
    (λ f. let same : n ≡ i = grind (arith, h) in subst (λ (k : ℕ). IsAmong k new) same a.there)
