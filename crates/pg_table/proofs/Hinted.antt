-- What a hint finds, and the step that was looked at.
use Rattle.std.proofs.Common.{◌≡◌, ℕ, List, [], ◌∷◌, ◌++◌, length, get_or, refl, sym, subst, Option, Some, None, true, Bor}
use Rattle.std.specs.Prelude.{slice_get, nat_lt, IfSome}
use Rattle.std.specs.Option.{option_copied}
use Rattle.std.proofs.lemmas.Option.{slice_get_read}
use Rattle.pg_lemmas.proofs.Numbers.{less_true}
use Rattle.pg_table.specs.Pending.{IsHeld}
use Rattle.pg_table.specs.Bucket.{Labels}
use Rattle.pg_table.specs.declared.table.Entry.{Entry}
use Rattle.pg_table.proofs.Lists.{contains_at}

-- what a lookup found
pub found_at : {X : Type 0} (xs ys : List X) (i : ℕ) (x : X) → ys ≡ xs → true ≡ nat_lt i (length ys) →
    x ≡ get_or ys i x → slice_get xs i ≡ Some x
found_at xs ys i x same less is = subst (λ zs. slice_get zs i ≡ Some x) same
    (slice_get_read ys (length ys) i x refl (less_true i (length ys) (sym less)) is)

-- a label that a hint found in a bucket is held
pub held_in : {S M : Type 0} (bs : List (Labels S M)) (i j : ℕ) (b : Labels S M)
    (r : Option (Bor (Entry S M))) → slice_get bs i ≡ Some b → option_copied r ≡ slice_get b.items j →
    IfSome r (λ p. IsHeld bs p.now)
held_in bs i j b None at is = tt
held_in bs i j b (Some p) at is = (i, (b, (at, contains_at b.items j p.now (sym is))))

-- a list with a last element is not empty
pub has_last : {X : Type 0} (xs : List X) (x : X) → xs ++ x ∷ [] ≡ [] → ⊥
has_last [] x e = cc
has_last (y ∷ xs) x e = cc

-- lists that end alike have the same last element
pub same_last : {X : Type 0} (xs ys : List X) (x y : X) → xs ++ x ∷ [] ≡ ys ++ y ∷ [] → x ≡ y
same_last [] [] x y e = cc
same_last [] (b ∷ []) x y e = absurd cc
same_last [] (b ∷ c ∷ ys) x y e = absurd cc
same_last (a ∷ []) [] x y e = absurd cc
same_last (a ∷ c ∷ xs) [] x y e = absurd cc
same_last (a ∷ xs) (b ∷ ys) x y e = let f : xs ++ x ∷ [] ≡ ys ++ y ∷ [] = cc in same_last xs ys x y f
