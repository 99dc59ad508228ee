-- Borrowed entries in the order that a closure answers by.
use Rattle.std.proofs.Common.{◌≡◌, ap, subst, ◌∙◌, ℕ, ◌+◌, ◌<◌, List, [], ◌∷◌, length, map, Bool, arith}
use Rattle.std.specs.Prelude.{slice_index_or}
use Rattle.std.specs.List.Sorted.{IsSortedBy, IsSortedByKey}
use Rattle.std.specs.Cmp.{IsTotalOrder, IsStrictWeakOrder}
use Rattle.std.specs.Fn.{Called, ComparesAs}
use Rattle.std.specs.Ordering.{is_lt}
use Rattle.std.specs.declared.cmp.Ordering.{Ordering}
use Rattle.std.proofs.lemmas.List.{get_or-map, length-map}
use Rattle.std.proofs.lemmas.List.Sorted.{ranks_by}
use Rattle.std.proofs.lemmas.Fn.{always_returns_same}
use denote.Param.Members.{Mut}
use denote.Ref.{Bor}

-- what is sorted by a test of images has sorted images
pub map_sorted : {X Y : Type 0} (f : X → Y) (lt : Y → Y → Bool) (xs : List X) →
    IsSortedBy (λ a b. lt (f a) (f b)) xs → IsSortedBy lt (map f xs)
map_sorted f lt [] sorted k d low high = absurd (omega arith)
map_sorted {Y = Y} f lt (x ∷ xs) sorted k d low high =
    let within : k + 1 < length (x ∷ xs) = subst (λ (n : ℕ). k + 1 < n) (length-map (x ∷ xs) f) high in
    ap (λ (y : Y). lt y (slice_index_or (map f (x ∷ xs)) k d)) (get_or-map f (x ∷ xs) (k + 1) x d within)
    ∙ ap (λ (y : Y). lt (f (slice_index_or (x ∷ xs) (k + 1) x)) y)
    (get_or-map f (x ∷ xs) k x d (omega (arith, within)))
    ∙ sorted k x low within

-- what a sort by a closure makes of borrowed values, each call of which compares their keys by a total order
pub sorted_now : {Y K : Type 0} (key : Y → K) (cmp : K → K → Ordering) → IsTotalOrder cmp → {F : Type 0}
    {g : Mut F (Bor (Bor Y) × (Bor (Bor Y) × Unit {0})) Ordering} {f : F} (xs : List (Bor Y)) →
    ((lt : Bor Y → Bor Y → Bool) → IsStrictWeakOrder lt → ComparesAs g lt f → IsSortedBy lt xs) →
    ((a : Bor (Bor Y) × (Bor (Bor Y) × Unit {0})) (r : Ordering) (f' : F) → Called g f a r f' →
    (r ≡ cmp (key a.0.now.now) (key a.1.0.now.now)) × (f' ≡ f)) →
    IsSortedByKey key cmp (map (λ (b : Bor Y). b.now) xs)
sorted_now {Y = Y} key cmp total {g = g} {f = f} xs up answers = map_sorted (λ (b : Bor Y). b.now)
    (λ x y. is_lt (cmp (key x) (key y))) xs
    (up (λ x y. is_lt (cmp (key x.now) (key y.now))) (ranks_by total (λ (b : Bor Y). key b.now))
    (always_returns_same g (λ a r. is_lt r ≡ is_lt (cmp (key a.0.now.now) (key a.1.0.now.now))) f
    (λ a r f' called. (ap is_lt (answers a r f' called).0, (answers a r f' called).1))))
