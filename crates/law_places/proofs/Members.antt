-- Members of lists.
use Rattle.std.proofs.Common.{◌≡◌, refl, sym, ap, subst, ◌∙◌, ℕ, zero, suc, ◌+◌, ◌≤◌, ◌<◌, ◌⊎◌, inl, inr, List, [], ◌∷◌, ◌++◌, map, Bool, true, false, arith}
use Rattle.std.specs.Prelude.{◌==◌, Contains}
use Rattle.std.proofs.lemmas.Bool.{eqb-true}
use Rattle.std.proofs.lemmas.Bool.Decides.{nat_tests}
use Rattle.std.specs.List.{filter, flat_map, range_with_len}
use Rattle.law_places.proofs.Among.{Among, among_left, among_right}
use Rattle.pg_lemmas.proofs.Bools.{by_bool, if_false, if_true}

pub among_append : {X P : Type 0} (x : X) (xs ys : List X) → Among x (xs ++ ys) → (Among x xs → P) →
    (Among x ys → P) → P
among_append x [] ys a f g = g a
among_append x (z ∷ xs) ys (inl e) f g = f (inl e)
among_append x (z ∷ xs) ys (inr a) f g = among_append x xs ys a (λ b. f (inr b)) g

pub in_map : {X Y : Type 0} (f : X → Y) (xs : List X) (x : X) → Among x xs → Among (f x) (map f xs)
in_map f [] x a = absurd a
in_map f (y ∷ ys) x (inl e) = inl (ap f e)
in_map f (y ∷ ys) x (inr a) = inr (in_map f ys x a)

pub of_map : {X Y P : Type 0} (f : X → Y) (xs : List X) (y : Y) → Among y (map f xs) →
    ((x : X) → Among x xs → f x ≡ y → P) → P
of_map f [] y a k = absurd a
of_map f (x ∷ xs) y (inl e) k = k x (inl refl) e
of_map f (x ∷ xs) y (inr a) k = of_map f xs y a (λ z b e. k z (inr b) e)

pub in_flat : {X Y : Type 0} (f : X → List Y) (xs : List X) (x : X) (y : Y) → Among x xs → Among y (f x) →
    Among y (flat_map f xs)
in_flat f [] x y a b = absurd a
in_flat f (z ∷ xs) x y (inl e) b = among_left y (f z) (flat_map f xs)
    (subst (λ w. Among y (f w)) (sym e) b)
in_flat f (z ∷ xs) x y (inr a) b = among_right y (f z) (flat_map f xs) (in_flat f xs x y a b)

pub of_flat : {X Y P : Type 0} (f : X → List Y) (xs : List X) (y : Y) → Among y (flat_map f xs) →
    ((x : X) → Among x xs → Among y (f x) → P) → P
of_flat f [] y a k = absurd a
of_flat f (x ∷ xs) y a k = among_append y (f x) (flat_map f xs) a (λ b. k x (inl refl) b)
    (λ b. of_flat f xs y b (λ z c d. k z (inr c) d))

pub in_filter : {X : Type 0} (p : X → Bool) (xs : List X) (x : X) → Among x xs → p x ≡ true →
    Among x (filter p xs)
in_filter p [] x a t = absurd a
in_filter p (y ∷ ys) x (inl e) t =
    subst (λ zs. Among x zs) (sym (if_true (p y) (y ∷ filter p ys) (filter p ys) (ap p e ∙ t))) (inl e)
in_filter p (y ∷ ys) x (inr a) t = by_bool (p y)
    (λ h. subst (λ zs. Among x zs) (sym (if_true (p y) (y ∷ filter p ys) (filter p ys) h))
    (inr (in_filter p ys x a t)))
    (λ h. subst (λ zs. Among x zs) (sym (if_false (p y) (y ∷ filter p ys) (filter p ys) h))
    (in_filter p ys x a t))

pub of_filter : {X : Type 0} (p : X → Bool) (xs : List X) (x : X) → Among x (filter p xs) →
    Among x xs × (p x ≡ true)
of_filter p [] x a = absurd a
of_filter {X} p (y ∷ ys) x a = by_bool (p y)
    (λ h. first h (of_filter p ys x)
    (subst (λ zs. Among x zs) (if_true (p y) (y ∷ filter p ys) (filter p ys) h) a))
    (λ h. more (of_filter p ys x
    (subst (λ zs. Among x zs) (if_false (p y) (y ∷ filter p ys) (filter p ys) h) a)))
  where
    more : Among x ys × (p x ≡ true) → Among x (y ∷ ys) × (p x ≡ true)
    more (b, t) = (inr b, t)

    first : p y ≡ true → (Among x (filter p ys) → Among x ys × (p x ≡ true)) →
        (y ≡ x) ⊎ Among x (filter p ys) → Among x (y ∷ ys) × (p x ≡ true)
    first h k (inl e) = (inl e, ap p (sym e) ∙ h)
    first h k (inr b) = more (k b)

pub in_range : (f k n : ℕ) → f ≤ n → n < f + k → Among n (range_with_len f k)
in_range f zero n h l = absurd (omega arith)
in_range f (suc k) n h l = by_bool (f == n) (λ t. inl (eqb-true f n t))
    (λ e. inr (in_range (f + 1) k n (more f n e h) (omega arith)))
  where
    more : (f n : ℕ) → (f == n) ≡ false → f ≤ n → f + 1 ≤ n
    more f n e h = grind (arith, nat_tests)

pub below_in : (k n : ℕ) → n < k → Among n (range_with_len 0 k)
below_in k n h = in_range 0 k n (omega arith) (omega arith)

pub among_contains : {X : Type 0} (xs : List X) (x : X) → Among x xs → Contains xs x
among_contains [] x a = absurd a
among_contains (y ∷ ys) x (inl e) = (0, omega arith, e)
among_contains {X} (y ∷ ys) x (inr a) = more (among_contains ys x a)
  where
    more : Contains ys x → Contains (y ∷ ys) x
    more (k, l, e) = (suc k, omega arith, e)

pub contains_among : {X : Type 0} (xs : List X) (x : X) → Contains xs x → Among x xs
contains_among [] x (k, l, e) = absurd (omega arith)
contains_among (y ∷ ys) x (zero, l, e) = inl e
contains_among (y ∷ ys) x (suc k, l, e) = inr (contains_among ys x (k, omega arith, e))
