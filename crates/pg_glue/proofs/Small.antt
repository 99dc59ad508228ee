-- Set widths of glue within its ranges are small.
use Rattle.std.proofs.Common.{ℕ, suc, ◌+◌, ◌*◌, ◌^◌, ◌≤◌, ◌<◌, arith, List, [], ◌∷◌, ◌++◌, length, length-append, Bool, true, false}
use Rattle.std.specs.Prelude.{◌==◌, if◌then◌else◌, nat_abs, ℤ, pos, negsuc, ◌+ℤ◌, ◌-ℤ◌, ◌*ℤ◌}
use Rattle.std.specs.List.{AllByRecursion}
use Rattle.std.proofs.Math.Nat.{div-le_self, mul-le-mul}
use Rattle.std.proofs.lemmas.Int.{ints, unsigned_abs-mul}
use Rattle.pg_list.specs.declared.item.Order.{Order}
use Rattle.pg_list.specs.Totals.{is_same_order}
use Rattle.pg_lemmas.proofs.Lists.{all_append}
use Rattle.pg_glue.specs.declared.Elastic.{Elastic}
use Rattle.pg_glue.specs.declared.Sense.{Sense}
use Rattle.pg_glue.specs.declared.Sense.TheVariants.{Stretch, Shrink}
use Rattle.pg_glue.specs.Widths.{IsPrintable, amounts, floor_by, set_width, share, widths_from}

-- an entry within the ranges of glue
abbrev pub IsEntry : Elastic → Type 0
IsEntry entry = (nat_abs entry.width < 2 ^ 30) × (nat_abs entry.amount < 2 ^ 30)

amount_small : (b : Bool) (x y : ℤ) (n : ℕ) → nat_abs x < 2 ^ 30 → nat_abs y ≤ 2 ^ 30 * n →
    nat_abs ((if b then x else pos 0) +ℤ y) ≤ 2 ^ 30 * suc n
amount_small true x y n h k = omega (arith, ints, h, k)
amount_small false x y n h k = omega (arith, ints, k)

amounts_small : (order : Order) (list : List Elastic) → AllByRecursion IsEntry list →
    nat_abs (amounts order list) ≤ 2 ^ 30 * length list
amounts_small order [] all = omega arith
amounts_small order (entry ∷ list) all =
    amount_small (is_same_order order entry.order) entry.amount (amounts order list) (length list) all.0.1
    (amounts_small order list all.1)

floor_small : (z : ℤ) (d : ℕ) → nat_abs (floor_by z d) ≤ nat_abs z + 1
floor_small (pos n) d = let k = div-le_self n d in omega (arith, k)
floor_small (negsuc n) d = let k = div-le_self n d in omega (arith, k)

share_small : (excess sum part : ℤ) → nat_abs excess < 2 ^ 52 → nat_abs part ≤ 2 ^ 51 →
    nat_abs (share excess sum part) ≤ 2 ^ 103 + 1
share_small excess (negsuc s) part h k = omega arith
share_small excess (pos s) part h k = by (s == 0)
  where
    product : nat_abs (excess *ℤ part) ≤ 2 ^ 103
    product =
        let small : nat_abs excess ≤ 2 ^ 52 = omega (arith, h) in
        let both = mul-le-mul small k in
        omega (arith, unsigned_abs-mul excess part, both)

    by : (b : Bool) → nat_abs (if b then pos 0 else floor_by (excess *ℤ part) s) ≤ 2 ^ 103 + 1
    by true = omega arith
    by false = let f = floor_small (excess *ℤ part) s in omega (arith, f, product)

width_small : (sense : Sense) (w a b : ℤ) → nat_abs w < 2 ^ 30 → nat_abs a ≤ 2 ^ 103 + 1 → nat_abs b ≤ 2 ^ 103 + 1 →
    IsPrintable (set_width sense w (a -ℤ b))
width_small Stretch w a b h k l = (omega (arith, ints, h, k, l), omega (arith, ints, h, k, l))
width_small Shrink w a b h k l = (omega (arith, ints, h, k, l), omega (arith, ints, h, k, l))

pub widths_small : (sense : Sense) (excess : ℤ) (order : Order) (sum : ℤ) (front list : List Elastic) →
    nat_abs excess < 2 ^ 52 → length front + length list ≤ 2 ^ 21 → AllByRecursion IsEntry front →
    AllByRecursion IsEntry list → AllByRecursion IsPrintable (widths_from sense excess order sum front list)
widths_small sense excess order sum front [] h few all more = tt
widths_small sense excess order sum front (entry ∷ list) h few all more =
    let next = all_append IsEntry front (entry ∷ []) all (more.0, tt) in
    let long = length-append front (entry ∷ []) in
    let a = amounts_small order front all in
    let b = amounts_small order (front ++ entry ∷ []) next in (
      width_small sense entry.width (share excess sum (amounts order (front ++ entry ∷ [])))
          (share excess sum (amounts order front)) more.0.0
          (share_small excess sum (amounts order (front ++ entry ∷ [])) h (omega (arith, b, long, few)))
          (share_small excess sum (amounts order front) h (omega (arith, a, few))),
      widths_small sense excess order sum (front ++ entry ∷ []) list h (omega (arith, long, few)) next more.1,
    )
