-- The ranges of what items add, with one item more and where they shift totals.
use Rattle.std.proofs.Common.{ℕ, ◌+◌, ◌*◌, ◌<◌, ◌≤◌, ◌^◌, arith, ℤ, ◌+ℤ◌, ◌-ℤ◌, Option, Some, None}
use Rattle.std.proofs.lemmas.Int.{ints}
use Rattle.std.specs.Prelude.{IfSome, nat_abs, unwrap_or}
use Rattle.pg_sums.specs.declared.totals.Totals.{Totals}
use Rattle.pg_sums.specs.SumsValue.{IsBounded}
use Rattle.pg_hops.specs.declared.shift.Shift.{Shift}
use Rattle.pg_hops.specs.Bounds.{HasRisen, IsLight, IsWellKept}
use Rattle.pg_hops.specs.Shift.{shifted}

-- more items may add more
pub more_light : (s : Shift) (n m : ℕ) → n ≤ m → IsLight s n → IsLight s m
more_light s n m more light = (
  omega (arith, more, light.0),
  deep s.depth light.1,
  omega (arith, more, light.2),
  omega (arith, more, light.3),
  omega (arith, more, light.4),
  omega (arith, more, light.5),
  omega (arith, more, light.6),
)
  where
    deep : (o : Option ℤ) → IfSome o (λ depth. (nat_abs depth ≤ 2 ^ 30) × (1 ≤ n)) →
        IfSome o (λ depth. (nat_abs depth ≤ 2 ^ 30) × (1 ≤ m))
    deep None d = d
    deep (Some depth) d = (d.0, omega (arith, more, d.1))

one_more : (old new : Shift) (n : ℕ) → IsLight old n → HasRisen new old → IsLight new (n + 1)
one_more old new n light rise = (
  omega (arith, light.0, rise.height_size),
  deep new.depth rise.depth_size,
  omega (arith, light.2, rise.glue_size.0),
  omega (arith, light.3, rise.glue_size.1),
  omega (arith, light.4, rise.glue_size.2),
  omega (arith, light.5, rise.glue_size.3),
  omega (arith, light.6, rise.shrink_size),
)
  where
    deep : (o : Option ℤ) → IfSome o (λ depth. nat_abs depth ≤ 2 ^ 30) →
        IfSome o (λ depth. (nat_abs depth ≤ 2 ^ 30) × (1 ≤ n + 1))
    deep None d = d
    deep (Some depth) d = (d, omega arith)

-- what is well kept stays so with one item more
pub kept_more : (old new : Shift) (n : ℕ) → n < 2 ^ 20 → IsLight old n → (IsLight old (2 ^ 24) → HasRisen new old) →
    IsWellKept (n + 1) new
kept_more old new n few light rise = record {
  few = omega (arith, few);
  light = one_more old new n light (rise (more_light old n (2 ^ 24) (omega (arith, few)) light));
}

-- shifted totals are no greater than their items allow
pub still_bounded : (t : Totals) (s : Shift) (n m : ℕ) → IsBounded t n → IsLight s m → IsBounded (shifted t s) (n + m)
still_bounded t s n m bounded light = (
  high s.depth light.1,
  deep s.depth light.1,
  more t.finite s.finite bounded.2 light.2,
  more t.fil s.fil bounded.3 light.3,
  more t.fill s.fill bounded.4 light.4,
  more t.filll s.filll bounded.5 light.5,
  more t.shrink s.shrink bounded.6 light.6,
)
  where
    high : (o : Option ℤ) → IfSome o (λ depth. (nat_abs depth ≤ 2 ^ 30) × (1 ≤ m)) →
        nat_abs (((t.total +ℤ t.depth) +ℤ s.height) -ℤ unwrap_or o t.depth) ≤ 2 ^ 34 * (n + m)
    high None d = omega (arith, ints, bounded.0, light.0)
    high (Some depth) d = omega (arith, ints, bounded.0, bounded.1, light.0, d.0, d.1)

    deep : (o : Option ℤ) → IfSome o (λ depth. (nat_abs depth ≤ 2 ^ 30) × (1 ≤ m)) →
        nat_abs (unwrap_or o t.depth) ≤ 2 ^ 31
    deep None d = bounded.1
    deep (Some depth) d = omega (arith, d.0)

    more : (a b : ℤ) → nat_abs a ≤ 2 ^ 31 * n → nat_abs b ≤ 2 ^ 31 * m → nat_abs (a +ℤ b) ≤ 2 ^ 31 * (n + m)
    more a b p q = omega (arith, ints, p, q)
