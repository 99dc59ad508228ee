-- The labels of a table, sorted by their states, are the frontier.
use Rattle.std.proofs.Common.{◌≡◌, refl, sym, ap, subst, ◌∙◌, ℕ, suc, ◌+◌, ◌<◌, List, [], ◌∷◌, map, length, Bool, true, false, Option, Some, None, arith}
use Rattle.std.specs.Prelude.{Contains, AllPairs, slice_get, slice_index_or, option_map}
use Rattle.std.specs.List.{AllByRecursion, IsDistinct}
use Rattle.std.specs.List.Sorted.{IsPermutation, IsSortedByKey}
use Rattle.std.specs.Ordering.{is_lt, ordering_reverse}
use Rattle.std.specs.declared.cmp.Ordering.{Ordering}
use Rattle.std.specs.declared.cmp.Ordering.TheVariants.{Less, Equal, Greater}
use Rattle.std.proofs.lemmas.List.Sorted.{IsPermutation-map, IsPermutation-sym, Contains-permutation}
use Rattle.std.proofs.lemmas.Map.Keys.{IsDistinct-IsPermutation}
use Rattle.std.proofs.lemmas.Option.{slice_get-map, same_Some}
use Rattle.pg_plan.specs.declared.pages.PageMove.{PageMove}
use Rattle.pg_plan.specs.declared.states.Label.{Label}
use Rattle.pg_plan.specs.declared.states.State.{State}
use Rattle.pg_rules.specs.Frontier.{state_cmp, RisesByState}
use Rattle.pg_table.specs.declared.table.Entry.{Entry}
use Rattle.pg_table.proofs.Lists.{at_contains, contains_at}
use Rattle.law_columns.proofs.StateOrder.{state_equal, states_total}
use Rattle.law_space.specs.SpaceLaws.{label_of}

abbrev is_tie : Ordering → Bool
is_tie Less = false
is_tie Equal = true
is_tie Greater = false

abbrev ties : State → State → Bool
ties a b = is_tie (state_cmp a b)

tie_back : (o : Ordering) → is_tie (ordering_reverse o) ≡ is_tie o
tie_back Less = refl
tie_back Equal = refl
tie_back Greater = refl

ties_flip : (a b : State) → ties a b ≡ ties b a
ties_flip a b = ap is_tie (states_total.antisymm a b) ∙ tie_back (state_cmp b a)

tie_equal : (a b : State) → ties a b ≡ true → a ≡ b
tie_equal a b h = state_equal a b (by (state_cmp a b) h)
  where
    by : (o : Ordering) → is_tie o ≡ true → o ≡ Equal
    by Less e = absurd cc
    by Equal e = refl
    by Greater e = absurd cc

differ : (a b : State) → (a ≡ b → ⊥) → ties a b ≡ false
differ a b n = by (ties a b) refl
  where
    by : (t : Bool) → t ≡ ties a b → ties a b ≡ false
    by true e = absurd (n (tie_equal a b (sym e)))
    by false e = sym e

abbrev states : List (Entry State PageMove) → List State
states es = map (λ (e : Entry State PageMove). e.state) es

heads : (e : Entry State PageMove) (es : List (Entry State PageMove)) →
    ((k : ℕ) → k < length es → e.state ≡ (slice_index_or es k e).state → ⊥) →
    AllByRecursion (λ y. ties e.state y ≡ false) (states es)
heads e [] h = tt
heads e (x ∷ es) h = (differ e.state x.state (h 0 (omega arith)), heads e es (λ k l. h (suc k) (omega arith)))

tail_pairs : {X : Type 0} (R : X → X → Type 0) (x : X) (xs : List X) → AllPairs R (x ∷ xs) → AllPairs R xs
tail_pairs R x xs a i j d h l = a (suc i) (suc j) d (omega arith) (omega arith)

distinct : (es : List (Entry State PageMove)) → AllPairs (λ a b. a.state ≡ b.state → ⊥) es →
    IsDistinct ties (states es)
unfolding IsDistinct
distinct [] a = tt
distinct (e ∷ es) a = (
  heads e es (λ k l. a 0 (suc k) e (omega arith) (omega arith)),
  distinct es (tail_pairs (λ (x y : Entry State PageMove). x.state ≡ y.state → ⊥) e es a),
)

rise : (xs : List Label) → ((k : ℕ) (d : Label) → suc k < length xs →
    is_lt (state_cmp (slice_index_or xs (suc k) d).state (slice_index_or xs k d).state) ≡ false) →
    IsDistinct ties (map (λ (l : Label). l.state) xs) → RisesByState xs
unfolding IsDistinct
rise [] h u = tt
rise (a ∷ []) h u = tt
rise (a ∷ b ∷ xs) h u = (
  less (state_cmp b.state a.state) (h 0 a (omega arith))
      (states_total.antisymm a.state b.state) u.0.0,
  rise (b ∷ xs) (λ k d l. h (suc k) d (omega arith)) u.1,
)
  where
    less : (o : Ordering) → is_lt o ≡ false → state_cmp a.state b.state ≡ ordering_reverse o →
        is_tie (state_cmp a.state b.state) ≡ false → state_cmp a.state b.state ≡ Less
    less Less e r t = absurd cc
    less Equal e r t = let k : is_tie (state_cmp a.state b.state) ≡ true = ap is_tie r in absurd cc
    less Greater e r t = r

map_map : (es : List (Entry State PageMove)) → map (λ (l : Label). l.state) (map label_of es) ≡ states es
map_map [] = refl
map_map (e ∷ es) = ap (λ (xs : List State). e.state ∷ xs) (map_map es)

pub labels_rise : (es : List (Entry State PageMove)) (labels : List Label) →
    AllPairs (λ a b. a.state ≡ b.state → ⊥) es → IsPermutation (map label_of es) labels →
    IsSortedByKey (λ (label : Label). label.state) state_cmp labels → RisesByState labels
labels_rise es labels a p sorted =
    let moved : IsPermutation (map (λ (l : Label). l.state) (map label_of es))
    (map (λ (l : Label). l.state) labels) =
    IsPermutation-map (λ (l : Label). l.state) (map label_of es) labels p in
    let first : IsDistinct ties (map (λ (l : Label). l.state) (map label_of es)) =
    subst (IsDistinct ties) (sym (map_map es)) (distinct es a) in
    rise labels (λ k d l. (let e : k + 1 ≡ suc k = omega arith in
    subst (λ (z : ℕ). is_lt (state_cmp (slice_index_or labels z d).state
    (slice_index_or labels k d).state) ≡ false) e (sorted k d (omega arith) (omega arith))))
    (IsDistinct-IsPermutation ties ties_flip (map (λ (l : Label). l.state) (map label_of es))
    (map (λ (l : Label). l.state) labels) moved first)

-- what is among the labels is an entry's
pub label_entry : (es : List (Entry State PageMove)) (labels : List Label) (label : Label) →
    IsPermutation (map label_of es) labels → Contains labels label →
    (e : Entry State PageMove) × (Contains es e × (label_of e ≡ label))
label_entry es labels label p c =
    by (at_contains (map label_of es) label
    (Contains-permutation labels (map label_of es) label (IsPermutation-sym (map label_of es) labels p) c))
  where
    by : (i : ℕ) × (slice_get (map label_of es) i ≡ Some label) →
        (e : Entry State PageMove) × (Contains es e × (label_of e ≡ label))
    by (i, at) = step (slice_get es i) refl (sym (slice_get-map label_of es i) ∙ at)
      where
        step : (o : Option (Entry State PageMove)) → o ≡ slice_get es i → option_map label_of o ≡ Some label →
            (e : Entry State PageMove) × (Contains es e × (label_of e ≡ label))
        step None q t = absurd cc
        step (Some e) q t = (e, (contains_at es i e (sym q), same_Some (label_of e) label t))

pub entry_label : (es : List (Entry State PageMove)) (labels : List Label) (e : Entry State PageMove) →
    IsPermutation (map label_of es) labels → Contains es e → Contains labels (label_of e)
entry_label es labels e p c = by (at_contains es e c)
  where
    by : (i : ℕ) × (slice_get es i ≡ Some e) → Contains labels (label_of e)
    by (i, at) = Contains-permutation (map label_of es) labels (label_of e) p
        (contains_at (map label_of es) i (label_of e)
        (slice_get-map label_of es i ∙ ap (option_map label_of) at))
