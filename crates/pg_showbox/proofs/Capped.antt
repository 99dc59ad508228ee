-- Numbers that are capped above every range.
use Rattle.std.proofs.Common.{◌≡◌, ◌∙◌, sym, ap, ℕ, ◌≤◌, ◌^◌, arith, List, take, drop, Bool, true, false, subst, inl, inr, refl, min}
use Rattle.std.specs.Prelude.{◌==◌, ◌&&◌, ℤ, pos, neg_ℤ, ◌<ℤ◌, int_le, nat_lt, Result, Ok, Err, if◌then◌else◌}
use Rattle.std.specs.Str.Parse.{digits_value}
use Rattle.std.proofs.lemmas.Int.{ints}
use Rattle.std.proofs.lemmas.Bool.{cases_Bool}
use Rattle.std.proofs.Math.Nat.{min-eq_left, min-le_right, le-min}
use Rattle.pg_scaled.specs.Digits.{digit_count}
use Rattle.pg_scaled.specs.Scaled.{signed}
use Rattle.pg_lemmas.proofs.Numbers.{less_true, not_less}
use Rattle.pg_showbox.specs.declared.kinds.ListKind.{ListKind}
use Rattle.pg_showbox.specs.declared.kinds.ListKind.TheVariants.{BadNumber, OutOfRange}
use Rattle.pg_showbox.specs.Parts.{ranged, digits_at}

pub below_cap : (v c : ℕ) → c ≡ min v (2 ^ 32) → c ≤ 2 ^ 32
below_cap v c e = subst (λ n. n ≤ 2 ^ 32) (sym e) (min-le_right v (2 ^ 32))

too_low : (low : ℤ) (n : ℕ) → neg_ℤ (pos (2 ^ 32)) <ℤ low → 2 ^ 32 ≤ n
    → int_le low (neg_ℤ (pos n)) ≡ false
too_low low n less more = grind (arith, ints)

too_high : (high : ℤ) (n : ℕ) → high <ℤ pos (2 ^ 32) → 2 ^ 32 ≤ n → int_le (pos n) high ≡ false
too_high high n less more = grind (arith, ints)

not_both : (b : Bool) (x y : Result (ℤ × List ℕ) ListKind) → (if b && false then x else y) ≡ y
not_both true x y = refl
not_both false x y = refl

outside : (low high : ℤ) (minus : Bool) (n : ℕ) (rest : List ℕ) → neg_ℤ (pos (2 ^ 32)) <ℤ low
    → high <ℤ pos (2 ^ 32) → 2 ^ 32 ≤ n → ranged low high (signed minus n) rest ≡ Err OutOfRange
outside low high true n rest a b more = rw (too_low low n a more) refl
outside low high false n rest a b more =
    rw (too_high high n b more) (not_both (int_le low (pos n)) (Ok (pos n, rest)) (Err OutOfRange))

-- a number above the cap is out of the range, and so is the cap
ranged_capped : (low high : ℤ) (minus : Bool) (v : ℕ) (rest : List ℕ) → neg_ℤ (pos (2 ^ 32)) <ℤ low
    → high <ℤ pos (2 ^ 32)
    → ranged low high (signed minus (min v (2 ^ 32))) rest ≡ ranged low high (signed minus v) rest
ranged_capped low high minus v rest a b = elim (cases_Bool (nat_lt v (2 ^ 32))) [
  | inl less ↦
      let within = less_true v (2 ^ 32) less in
      ap (λ n. ranged low high (signed minus n) rest) (min-eq_left (omega (arith, within)))
  | inr more ↦
      let above = not_less v (2 ^ 32) more in
      outside low high minus (min v (2 ^ 32)) rest a b (le-min above (omega arith))
      ∙ sym (outside low high minus v rest a b above)
]

-- what digits say, of which the value is capped
pub digits_said : (low high value low' high' : ℤ) (minus : Bool) (bytes digits rest : List ℕ) (capped : ℕ)
    → neg_ℤ (pos (2 ^ 32)) <ℤ low → high <ℤ pos (2 ^ 32)
    → low' ≡ low → high' ≡ high → value ≡ signed minus capped → capped ≡ min (digits_value 10 digits) (2 ^ 32)
    → digits ≡ take (digit_count bytes) bytes → rest ≡ drop (digit_count bytes) bytes
    → (digit_count bytes == 0) ≡ false → ranged low' high' value rest ≡ digits_at low high minus bytes
unfolding digits_at
digits_said low high value low' high' minus bytes digits rest capped a b l h v c d r some =
    let said = ranged low high (signed minus (digits_value 10 (take (digit_count bytes) bytes)))
    (drop (digit_count bytes) bytes) in
    ap (λ z. ranged z high' value rest) l
    ∙ ap (λ z. ranged low z value rest) h
    ∙ ap (λ z. ranged low high z rest) (v ∙ ap (signed minus) c)
    ∙ ranged_capped low high minus (digits_value 10 digits) rest a b
    ∙ ap (λ ds. ranged low high (signed minus (digits_value 10 ds)) rest) d
    ∙ ap (λ bs. ranged low high (signed minus (digits_value 10 (take (digit_count bytes) bytes))) bs) r
    ∙ subst (λ (none : Bool). said ≡ (if none then Err BadNumber else said)) (sym some) refl

pub no_digits : (low high : ℤ) (minus : Bool) (bytes : List ℕ) → (digit_count bytes == 0) ≡ true
    → digits_at low high minus bytes ≡ Err BadNumber
unfolding digits_at
no_digits low high minus bytes none = rw none refl
