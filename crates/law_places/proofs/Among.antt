-- Members of lists, and what holds of all.
use Rattle.std.proofs.lemmas.Int.{ints}
use Rattle.std.proofs.Common.{◌≡◌, refl, subst, ◌⊎◌, inl, inr, List, [], ◌∷◌, ◌++◌, map, Bool, true, ap, ◌∙◌, arith}
use Rattle.std.specs.Prelude.{◌&&◌, ℤ, pos, ◌+ℤ◌}
use Rattle.std.specs.List.{list_all}
use Rattle.pg_list.specs.Whole.{whole_sum_by}
use Rattle.pg_lemmas.proofs.Bools.{both_of, both}

abbrev pub Among : {X : Type 0} → X → List X → Type 0
Among x [] = ⊥
Among x (y ∷ ys) = (y ≡ x) ⊎ Among x ys

pub among_left : {X : Type 0} (x : X) (xs ys : List X) → Among x xs → Among x (xs ++ ys)
among_left x [] ys a = absurd a
among_left x (z ∷ xs) ys (inl e) = inl e
among_left x (z ∷ xs) ys (inr a) = inr (among_left x xs ys a)

pub among_right : {X : Type 0} (x : X) (xs ys : List X) → Among x ys → Among x (xs ++ ys)
among_right x [] ys a = a
among_right x (z ∷ xs) ys a = inr (among_right x xs ys a)

pub all_at : {X : Type 0} (p : X → Bool) (xs : List X) (x : X) → list_all p xs ≡ true → Among x xs → p x ≡ true
all_at p [] x h a = absurd a
all_at p (y ∷ ys) x h (inl e) = subst (λ z. p z ≡ true) e (both_of (p y) (list_all p ys) h).0
all_at p (y ∷ ys) x h (inr a) = all_at p ys x (both_of (p y) (list_all p ys) h).1 a

pub all_of : {X : Type 0} (p : X → Bool) (xs : List X) → ((x : X) → Among x xs → p x ≡ true) →
    list_all p xs ≡ true
all_of p [] h = refl
all_of p (y ∷ ys) h = both (p y) (list_all p ys) (h y (inl refl)) (all_of p ys (λ x a. h x (inr a)))

pub map_same : {X Y : Type 0} (f g : X → Y) (xs : List X) → ((x : X) → Among x xs → f x ≡ g x) →
    map f xs ≡ map g xs
map_same f g [] h = refl
map_same f g (x ∷ xs) h = let a : f x ≡ g x = h x (inl refl) in let b : map f xs ≡ map g xs =
    map_same f g xs (λ y m. h y (inr m)) in cc

pub sum_same : {X : Type 0} (f g : X → ℤ) (xs : List X) → ((x : X) → Among x xs → f x ≡ g x) →
    whole_sum_by f xs ≡ whole_sum_by g xs
sum_same f g [] h = refl
sum_same f g (x ∷ xs) h = let a : f x ≡ g x = h x (inl refl) in
    let b : whole_sum_by f xs ≡ whole_sum_by g xs = sum_same f g xs (λ y m. h y (inr m)) in cc

pub all_same : {X : Type 0} (p q : X → Bool) (xs : List X) → ((x : X) → Among x xs → p x ≡ q x) →
    list_all p xs ≡ list_all q xs
all_same p q [] h = refl
all_same p q (x ∷ xs) h = let a : p x ≡ q x = h x (inl refl) in let b : list_all p xs ≡ list_all q xs =
    all_same p q xs (λ y m. h y (inr m)) in cc

pub among_cases : {X : Type 0} (x : X) (xs ys : List X) → Among x (xs ++ ys) → Among x xs ⊎ Among x ys
among_cases x [] ys a = inr a
among_cases x (z ∷ xs) ys (inl e) = inl (inl e)
among_cases x (z ∷ xs) ys (inr a) = elim (among_cases x xs ys a) [
  | inl h ↦ inl (inr h)
  | inr h ↦ inr h
]

pub sum_append : {X : Type 0} (f : X → ℤ) (xs ys : List X) →
    whole_sum_by f (xs ++ ys) ≡ whole_sum_by f xs +ℤ whole_sum_by f ys
sum_append f [] ys = zero (whole_sum_by f ys)
  where
    zero : (z : ℤ) → z ≡ pos 0 +ℤ z
    zero z = omega (arith, ints)
sum_append f (x ∷ xs) ys =
    ap (λ (z : ℤ). f x +ℤ z) (sum_append f xs ys) ∙ group (f x) (whole_sum_by f xs) (whole_sum_by f ys)
  where
    group : (a b c : ℤ) → a +ℤ (b +ℤ c) ≡ (a +ℤ b) +ℤ c
    group a b c = omega (arith, ints)
