-- Bounds that are no greater.
use Rattle.std.proofs.Common.{◌≡◌, refl, Option, Some, None, true, ℤ, arith}
use Rattle.std.proofs.lemmas.Int.{ints}
use Rattle.law_places.proofs.Tests.{int_le_of, le_int}
use Rattle.pg_column.specs.Passed.{fits}
use Rattle.law_walk.specs.Candidates.{is_no_greater}

pub no_greater_itself : (o : Option ℤ) → is_no_greater o o ≡ true
no_greater_itself None = refl
no_greater_itself (Some x) = int_le_of x x (omega (arith, ints))

pub no_greater_chain : (a b c : Option ℤ) → is_no_greater a b ≡ true → is_no_greater b c ≡ true →
    is_no_greater a c ≡ true
no_greater_chain None b c p q = refl
no_greater_chain (Some x) None c p q = absurd cc
no_greater_chain (Some x) (Some y) None p q = absurd cc
no_greater_chain (Some x) (Some y) (Some z) p q =
    let a = le_int x y p in let b = le_int y z q in int_le_of x z (omega (arith, ints, a, b))

-- where the greater bound lets pass, the lesser does
pub fits_less : (x y : Option ℤ) (height : ℤ) → is_no_greater x y ≡ true → fits y height ≡ true →
    fits x height ≡ true
fits_less None y height n f = refl
fits_less (Some x) None height n f = absurd cc
fits_less (Some x) (Some y) height n f =
    let a = le_int x y n in let b = le_int y height f in int_le_of x height (omega (arith, ints, a, b))
