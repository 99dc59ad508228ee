-- The stretch of one order, summed item by item.
use Rattle.std.proofs.Common.{◌≡◌, ◌∙◌, ap, ◌+◌, ◌-◌, ◌*◌, ◌≤◌, ◌^◌, arith, List, [], ◌∷◌, take, drop, length, get_or, ℤ, ◌+ℤ◌}
use Rattle.std.specs.Prelude.{nat_abs}
use Rattle.std.specs.Borrow.{Bor}
use Rattle.std.proofs.lemmas.Int.{ints}
use Rattle.std.proofs.lemmas.List.{take_all}
use Rattle.pg_list.specs.declared.item.Item.{Item}
use Rattle.pg_list.specs.declared.item.Order.{Order}
use Rattle.pg_list.specs.Totals.{stretch, stretch_of}
use Rattle.pg_column.specs.Between.{behind}

joined : (sum part new first others whole : ℤ) → new ≡ sum +ℤ part → part ≡ first → sum +ℤ (first +ℤ others) ≡ whole →
    new +ℤ others ≡ whole
joined sum part new first others whole p q r = omega (arith, ints)

-- a sum so far and what is ahead are the whole
pub next_sum : (order : Order) (rest : List (Bor Item)) (x d : Bor Item) (sum part new whole : ℤ) → 1 ≤ length rest →
    x ≡ get_or rest 0 d → part ≡ stretch_of order x.now → new ≡ sum +ℤ part →
    sum +ℤ stretch order (behind rest) ≡ whole →
    new +ℤ stretch order (behind (take (length rest - 1) (drop 1 rest))) ≡ whole
next_sum order [] x d sum part new whole some is own more was = absurd (omega (arith, some))
next_sum order (y ∷ rest) x d sum part new whole some is own more was =
    let all : take (length (y ∷ rest) - 1) rest ≡ rest = take_all (length (y ∷ rest) - 1) rest (omega arith) in
    let mine : part ≡ stretch_of order y.now = own ∙ ap (λ (z : Bor Item). stretch_of order z.now) is in
    ap (λ (those : List (Bor Item)). new +ℤ stretch order (behind those)) all
    ∙ joined sum part new (stretch_of order y.now) (stretch order (behind rest)) whole more mine was

-- what is ahead may add 2 ^ 31 an item
pub fewer : (rest : List (Bor Item)) (sum part new : ℤ) → 1 ≤ length rest → nat_abs part ≤ 2 ^ 31 →
    nat_abs new ≤ nat_abs sum + nat_abs part → nat_abs sum + 2 ^ 31 * length rest ≤ 2 ^ 52 →
    nat_abs new + 2 ^ 31 * length (take (length rest - 1) (drop 1 rest)) ≤ 2 ^ 52
fewer [] sum part new some small more few = absurd (omega (arith, some))
fewer (y ∷ rest) sum part new some small more few =
    let all : take (length (y ∷ rest) - 1) rest ≡ rest = take_all (length (y ∷ rest) - 1) rest (omega arith) in
    let long = ap length all in omega (arith, long, small, more, few)
