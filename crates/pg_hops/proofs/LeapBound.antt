-- The least room that lets a leap pass, from the one that lets its first break pass.
use Rattle.std.proofs.Common.{◌≡◌, ap, ◌∙◌, false, Option, Some, ℤ, pos, arith}
use Rattle.std.specs.Prelude.{◌+ℤ◌, ◌-ℤ◌, ◌≤ℤ◌, int_lt}
use Rattle.std.specs.Int.{int_min}
use Rattle.std.proofs.lemmas.Int.{clamps, ints}
use Rattle.pg_style.specs.Values.{StyleValue}
use Rattle.pg_column.specs.Passed.{Passed, least_notes, least_room, raised}
use Rattle.pg_hops.specs.Leap.{LeapValue, asked_before, leapt}

-- where no shrink is negative, a leap begins with the least room and the depth that hangs
least_before : (t d n s : ℤ) → pos 0 ≤ℤ s →
    int_min ((t +ℤ n) +ℤ pos 1) ((t +ℤ n) -ℤ s) +ℤ d ≡ ((t +ℤ d) +ℤ n) -ℤ s
least_before t d n s p = omega (arith, ints, clamps, p)

-- the least room for a height and its notes, worked out by their sum
pub least_not_over : (t n s full over shrunk : ℤ) → full ≡ (t +ℤ n) → over ≡ (full +ℤ pos 1) → shrunk ≡ (full -ℤ s) →
    int_lt over shrunk ≡ false → shrunk ≡ int_min ((t +ℤ n) +ℤ pos 1) ((t +ℤ n) -ℤ s)
least_not_over t n s full over shrunk e f g h = grind (arith, ints, clamps, e, f, g, h)

module _ (style : StyleValue) (p : Passed) (leap : LeapValue) where
  pub bound_is : pos 0 ≤ℤ p.totals.shrink → (least depth so most first last : ℤ) → least ≡ least_room style p →
      depth ≡ p.totals.depth → so ≡ least +ℤ depth → most ≡ so +ℤ leap.highest → Some first ≡ raised p.bound least →
      Some last ≡ raised (Some first) most → Some last ≡ (leapt style p leap).bound
  bound_is shrink least depth so most first last l d s m f e =
      let begins : so ≡ asked_before style p =
      s ∙ (ap (λ (z : ℤ). z +ℤ depth) l ∙ (ap (λ (z : ℤ). least_room style p +ℤ z) d
      ∙ least_before p.totals.total p.totals.depth (least_notes style p) p.totals.shrink shrink)) in
      e ∙ (ap (raised (Some first)) (m ∙ ap (λ (z : ℤ). z +ℤ leap.highest) begins)
      ∙ ap (λ (o : Option ℤ). raised o (asked_before style p +ℤ leap.highest)) (f ∙ ap (raised p.bound) l))
