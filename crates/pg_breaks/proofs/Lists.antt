-- Items and offsets of a list in two parts.
use Rattle.std.proofs.Common.{◌≡◌, refl, ap, ℕ, zero, suc, ◌+◌, ◌<◌, ◌≤◌, List, [], ◌∷◌, ◌++◌, length, drop, arith, Bool, true, false, Some, ◌⊎◌, inl, inr}
use Rattle.std.specs.Prelude.{slice_get, not, ◌&&◌}
use Rattle.pg_list.specs.declared.item.Item.{Item}
use Rattle.pg_list.specs.Shapes.{is_discardable}
use Rattle.pg_list.specs.Break.{has_at, follows_solid}

abbrev pub is_solid : Item → Bool
is_solid item = not (is_discardable item)

-- the item before an offset is solid, where what stands before the list is known
abbrev pub follows : Bool → List Item → ℕ → Bool
follows first list zero = first
follows first list (suc k) = has_at is_solid list k

pub follows_none : (list : List Item) (k : ℕ) → follows false list k ≡ follows_solid list k
follows_none list zero = refl
follows_none list (suc k) = refl

pub get_right : {X : Type 0} (xs ys : List X) (m k : ℕ) → m ≡ length xs + k →
    slice_get (xs ++ ys) m ≡ slice_get ys k
get_right [] ys m k e = ap (slice_get ys) (omega arith)
get_right (x ∷ xs) ys zero k e = absurd (omega (arith, e))
get_right (x ∷ xs) ys (suc m) k e = get_right xs ys m k (omega (arith, e))

pub drop_right : {X : Type 0} (xs ys : List X) (m k : ℕ) → m ≡ length xs + k → drop m (xs ++ ys) ≡ drop k ys
drop_right [] ys m k e = ap (λ n. drop n ys) (omega arith)
drop_right (x ∷ xs) ys zero k e = absurd (omega (arith, e))
drop_right (x ∷ xs) ys (suc m) k e = drop_right xs ys m k (omega (arith, e))

pub drop_left : {X : Type 0} (xs ys : List X) (m : ℕ) → m ≤ length xs → drop m (xs ++ ys) ≡ drop m xs ++ ys
drop_left xs ys zero h = refl
drop_left [] ys (suc m) h = absurd (omega (arith, h))
drop_left (x ∷ xs) ys (suc m) h = drop_left xs ys m (omega (arith, h))

-- an offset in a list of two parts is in the first, or behind it in the second
pub get_split : {X : Type 0} (xs ys : List X) (m : ℕ) (x : X) → slice_get (xs ++ ys) m ≡ Some x →
    (slice_get xs m ≡ Some x) ⊎ ((k : ℕ) × (m ≡ length xs + k) × (slice_get ys k ≡ Some x))
get_split [] ys m x e = inr (m, omega arith, e)
get_split (y ∷ xs) ys zero x e = inl e
get_split (y ∷ xs) ys (suc m) x e =
    elim (get_split xs ys m x e) [ inl h ↦ inl h | inr h ↦ inr (h.0, omega (arith, h.1), h.2) ]

pub get_lt : {X : Type 0} (xs : List X) (m : ℕ) (x : X) → slice_get xs m ≡ Some x → m < length xs
get_lt [] m x e = absurd (cc)
get_lt (y ∷ xs) zero x e = omega arith
get_lt (y ∷ xs) (suc m) x e = omega (arith, get_lt xs m x e)

same_step : (a b c : Bool) → (a && b && c) ≡ true → (a ≡ true) × (b ≡ true) × (c ≡ true)
same_step true true true e = (refl, refl, refl)
same_step true true false e = absurd (cc)
same_step true false c e = absurd (cc)
same_step false b c e = absurd (cc)
