-- What holds of each member of a list and each later one.
use Rattle.std.proofs.Common.{refl, sym, subst, ℕ, zero, suc, ◌+◌, ◌<◌, inl, inr, List, [], ◌∷◌, ◌++◌, map, get_or, length, Bool, arith}
use Rattle.std.specs.Prelude.{Contains, AllPairs}
use Rattle.std.specs.List.{filter, flat_map, range_with_len}
use Rattle.law_places.proofs.Among.{Among}
use Rattle.pg_lemmas.proofs.Bools.{by_bool, if_false, if_true}
use Rattle.law_places.proofs.Members.{among_append, among_contains, of_filter, of_flat, of_map}

-- each and each later one
abbrev pub Pairs : {X : Type 0} → (X → X → Type 0) → List X → Type 0
Pairs R [] = Unit {0}
Pairs {X} R (x ∷ xs) = ((y : X) → Among y xs → R x y) × Pairs R xs

pub pairs_append : {X : Type 0} (R : X → X → Type 0) (xs ys : List X) → Pairs R xs → Pairs R ys →
    ((x y : X) → Among x xs → Among y ys → R x y) → Pairs R (xs ++ ys)
pairs_append R [] ys p q h = q
pairs_append R (x ∷ xs) ys p q h = (
  λ y a. among_append y xs ys a (p.0 y) (h x y (inl refl)),
  pairs_append R xs ys p.1 q (λ z y a b. h z y (inr a) b),
)

pub pairs_map : {X Y : Type 0} (R : Y → Y → Type 0) (f : X → Y) (xs : List X) →
    Pairs (λ x y. R (f x) (f y)) xs → Pairs R (map f xs)
pairs_map R f [] p = tt
pairs_map R f (x ∷ xs) p = (
  λ y a. of_map f xs y a (λ z b e. subst (R (f x)) e (p.0 z b)),
  pairs_map R f xs p.1,
)

-- those of one list, and those of two lists of two members
pub pairs_flat : {X Y : Type 0} (R : Y → Y → Type 0) (f : X → List Y) (xs : List X) →
    ((x : X) → Among x xs → Pairs R (f x)) →
    Pairs (λ x z. (y w : Y) → Among y (f x) → Among w (f z) → R y w) xs → Pairs R (flat_map f xs)
pairs_flat R f [] h p = tt
pairs_flat R f (x ∷ xs) h p = pairs_append R (f x) (flat_map f xs) (h x (inl refl))
    (pairs_flat R f xs (λ z a. h z (inr a)) p.1)
    (λ y w a b. of_flat f xs w b (λ z c d. p.0 z c y w a d))

pub pairs_filter : {X : Type 0} (R : X → X → Type 0) (p : X → Bool) (xs : List X) → Pairs R xs →
    Pairs R (filter p xs)
pairs_filter R p [] h = tt
pairs_filter R p (x ∷ xs) h = by_bool (p x)
    (λ t. subst (Pairs R) (sym (if_true (p x) (x ∷ filter p xs) (filter p xs) t))
    (λ y a. h.0 y (of_filter p xs y a).0, pairs_filter R p xs h.1))
    (λ t. subst (Pairs R) (sym (if_false (p x) (x ∷ filter p xs) (filter p xs) t))
    (pairs_filter R p xs h.1))

pub pairs_weaker : {X : Type 0} (R S : X → X → Type 0) (xs : List X) →
    ((x y : X) → Among x xs → Among y xs → R x y → S x y) → Pairs R xs → Pairs S xs
pairs_weaker R S [] h p = tt
pairs_weaker R S (x ∷ xs) h p = (
  λ y a. h x y (inl refl) (inr a) (p.0 y a),
  pairs_weaker R S xs (λ z y a b. h z y (inr a) (inr b)) p.1,
)

pub range_apart : (f k : ℕ) → Pairs (λ (a b : ℕ). a < b) (range_with_len f k)
range_apart f zero = tt
range_apart f (suc k) = (λ y a. least (f + 1) k y a (omega arith), range_apart (f + 1) k)
  where
    least : (g k y : ℕ) → Among y (range_with_len g k) → f < g → f < y
    least g zero y a h = absurd a
    least g (suc k) y (inl e) h = omega arith
    least g (suc k) y (inr a) h = least (g + 1) k y a (omega arith)

pub at_among : {X : Type 0} (xs : List X) (i : ℕ) (d : X) → i < length xs → Among (get_or xs i d) xs
at_among [] i d h = absurd (omega arith)
at_among (x ∷ xs) zero d h = inl refl
at_among (x ∷ xs) (suc i) d h = inr (at_among xs i d (omega arith))

pub pairs_all : {X : Type 0} (R : X → X → Type 0) (xs : List X) → Pairs R xs → AllPairs R xs
pairs_all R [] p i j d l k = absurd (omega arith)
pairs_all R (x ∷ xs) p zero zero d l k = absurd (omega arith)
pairs_all R (x ∷ xs) p zero (suc j) d l k = p.0 (get_or xs j d) (at_among xs j d (omega arith))
pairs_all R (x ∷ xs) p (suc i) zero d l k = absurd (omega arith)
pairs_all R (x ∷ xs) p (suc i) (suc j) d l k = pairs_all R xs p.1 i j d (omega arith) (omega arith)

pub all_pairs : {X : Type 0} (R : X → X → Type 0) (xs : List X) → AllPairs R xs → Pairs R xs
all_pairs R [] p = tt
all_pairs {X} R (x ∷ xs) p = (
  λ y a. first y (among_contains xs y a),
  all_pairs R xs (λ i j d l k. p (suc i) (suc j) d (omega arith) (omega arith)),
)
  where
    first : (y : X) → Contains xs y → R x y
    first y (k, l, e) = subst (R x) e (p 0 (suc k) y (omega arith) (omega arith))
