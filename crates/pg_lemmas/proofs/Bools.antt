-- Tests and what they are put together from.
use Rattle.std.proofs.Common.{◌≡◌, ◌⊎◌, inl, inr, refl, true, false, Bool, ap, sym}
use Rattle.std.specs.Prelude.{◌&&◌, ◌||◌, not, IsTrue, if◌then◌else◌, T}

-- both parts of an `and` that holds
pub both_of : (a b : Bool) → (a && b) ≡ true → (a ≡ true) × (b ≡ true)
both_of true b e = (refl, e)
both_of false b e = absurd cc

-- an `and` of two that hold
pub both : (a b : Bool) → a ≡ true → b ≡ true → (a && b) ≡ true
both true b p q = q
both false b p q = cc

-- both parts, of a truth
pub true_both : (a b : Bool) → IsTrue (a && b) → IsTrue a × IsTrue b
true_both true true e = (refl, refl)
true_both true false e = cc
true_both false b e = cc

-- what is not so does not hold
pub not_true : (b : Bool) → not b ≡ true → b ≡ false
not_true true h = cc
not_true false h = refl

-- one part of an `or` that holds
pub or_cases : (a b : Bool) → (a || b) ≡ true → (a ≡ true) ⊎ (b ≡ true)
or_cases true b e = inl refl
or_cases false b e = inr e

-- an `or` whose second part holds
pub or_right : (a b : Bool) → b ≡ true → (a || b) ≡ true
or_right true b e = refl
or_right false b e = e

-- what follows from either answer of a test
pub by_bool : {P : Type 0} (b : Bool) → (b ≡ true → P) → (b ≡ false → P) → P
by_bool true f k = f refl
by_bool false f k = k refl

-- both branches alike
pub either_way : {X : Type 0} (b : Bool) (x : X) → (if b then x else x) ≡ x
either_way true x = refl
either_way false x = refl

-- what does not hold is not so
pub not_false : (b : Bool) → b ≡ false → not b ≡ true
not_false b h = ap not h

-- a test has one answer
pub not_both : (b : Bool) → b ≡ true → b ≡ false → ⊥
not_both b p q = absurd cc

-- tests that follow from one another are equal
pub both_ways : (s t : Bool) → (s ≡ true → t ≡ true) → (t ≡ true → s ≡ true) → s ≡ t
both_ways true t f g = sym (f refl)
both_ways false true f g = g refl
both_ways false false f g = refl

-- an `or` whose first part holds
pub or_left : (a b : Bool) → a ≡ true → (a || b) ≡ true
or_left true b e = refl
or_left false b e = absurd cc

-- what is asked where a test holds, where it holds
pub where_true : (b test : Bool) → b ≡ true → (not b || test) ≡ test
where_true true test e = refl
where_true false test e = absurd cc

-- what is asked where two tests hold, where the second does not
pub where_neither : (b test : Bool) → (not (b && false) || test) ≡ true
where_neither true test = refl
where_neither false test = refl

pub if_true : {X : Type 0} (b : Bool) (x y : X) → b ≡ true → (if b then x else y) ≡ x
if_true true x y e = refl
if_true false x y e = absurd cc

pub if_false : {X : Type 0} (b : Bool) (x y : X) → b ≡ false → (if b then x else y) ≡ y
if_false false x y e = refl
if_false true x y e = absurd cc

pub true_of : (b : Bool) → T b → b ≡ true
true_of true t = refl
true_of false t = absurd t

-- where neither of two is, nor is one of both
pub or_false : (a b : Bool) → (a || b) ≡ false → (a ≡ false) × (b ≡ false)
or_false false b e = (refl, e)
or_false true b e = absurd cc
