-- Tests that hold.
use Rattle.std.proofs.lemmas.Int.{ints}
use Rattle.std.proofs.Common.{◌≡◌, sym, subst, ℕ, ◌≤◌, ◌<◌, true, false, arith}
use Rattle.std.specs.Prelude.{◌&&◌, ◌==◌, if◌then◌else◌, ℤ, ◌<ℤ◌, ◌≤ℤ◌, int_lt, int_le, T}
use lib.Signed.{lt_z_yes, le_z_yes}
use Rattle.pg_list.specs.declared.galley.Place.{Place}
use Rattle.pg_list.specs.Flat.{is_same_place}
use Rattle.pg_lemmas.proofs.Bools.{both, true_of}
use Rattle.pg_lemmas.proofs.Numbers.{eq_refl}

pub place_refl : (a : Place) → is_same_place a a ≡ true
place_refl a = both ((a.block == a.block) && (a.variant == a.variant)) (a.index == a.index)
    (both (a.block == a.block) (a.variant == a.variant) (eq_refl a.block) (eq_refl a.variant))
    (eq_refl a.index)

pub less_int : (a b : ℤ) → int_lt a b ≡ true → a <ℤ b
less_int a b e = lt_z_yes (subst T (sym e) tt)

pub int_less : (a b : ℤ) → a <ℤ b → int_lt a b ≡ true
int_less a b h = true_of (int_lt a b) h.lt

pub le_int : (a b : ℤ) → int_le a b ≡ true → a ≤ℤ b
le_int a b e = le_z_yes (subst T (sym e) tt)

pub int_le_of : (a b : ℤ) → a ≤ℤ b → int_le a b ≡ true
int_le_of a b h = true_of (int_le a b) h.le

pub not_less_int : (k l : ℤ) → int_lt k l ≡ false → l ≤ℤ k
not_less_int k l e = grind (arith, ints)

pub not_le_int : (k l : ℤ) → int_le k l ≡ false → l <ℤ k
not_le_int k l e = grind (arith, ints)

pub int_le_trans : (x y z : ℤ) → x ≤ℤ y → y ≤ℤ z → x ≤ℤ z
int_le_trans x y z p q = omega (arith, ints)

pub both_same : (a b : ℤ) → a ≤ℤ b → b ≤ℤ a → a ≡ b
both_same a b h k = omega (arith, ints, h, k)
