-- A size above the columns of all runs is above those of each.
use Rattle.std.proofs.Common.{◌≡◌, subst, ℕ, zero, suc, List, [], ◌∷◌, true, Bool, Some}
use Rattle.std.specs.Prelude.{slice_get, ℤ, ◌+ℤ◌, ◌<ℤ◌, int_lt}
use Rattle.std.specs.List.{list_all}
use Rattle.std.proofs.lemmas.Option.{same_Some}
use Rattle.pg_lemmas.proofs.Bools.{both_of}
use Rattle.law_places.proofs.Tests.{less_int}
use Rattle.pg_style.specs.Values.{StyleValue}
use Rattle.pg_style.specs.declared.style.Run.{Run}
use Rattle.pg_alone.specs.Alone.{is_above_all}

-- what is true of all is true of each
pub each_of : {X : Type 0} (test : X → Bool) (xs : List X) (i : ℕ) (x : X) → list_all test xs ≡ true →
    slice_get xs i ≡ Some x → test x ≡ true
each_of test [] i x all is = absurd cc
each_of test (y ∷ xs) zero x all is =
    subst (λ (z : _). test z ≡ true) (same_Some y x is) (both_of (test y) (list_all test xs) all).0
each_of test (y ∷ xs) (suc i) x all is = each_of test xs i x (both_of (test y) (list_all test xs) all).1 is

pub above_run : (style : StyleValue) (size : ℤ) → is_above_all style size ≡ true → (run : ℕ) (it : Run) →
    slice_get style.runs run ≡ Some it → (style.height +ℤ it.extra) <ℤ size
above_run style size above run it is =
    less_int (style.height +ℤ it.extra) size
    (each_of (λ (other : Run). int_lt (style.height +ℤ other.extra) size) style.runs run it above is)
