-- The first picks of a column, compared from the last.
use Rattle.std.proofs.Common.{◌≡◌, ◌∙◌, refl, sym, ap, arith, add-one, ◌-◌, ◌<◌, ◌≤◌, ℕ, zero, suc, List, [], ◌∷◌, length, take, get_or}
use Rattle.std.specs.Prelude.{reverse}
use Rattle.std.specs.Ordering.{nat_cmp, ordering_then}
use Rattle.std.specs.declared.cmp.Ordering.TheVariants.{Less, Equal, Greater}
use Rattle.std.proofs.lemmas.List.{take_more, take_all, reverse-append}
use Rattle.pg_plan.specs.Order.{picks_cmp}

reverse_taken : (xs : List ℕ) (n : ℕ) → 0 < n → n ≤ length xs → reverse (take n xs) ≡ get_or xs (n - 1) 0 ∷ reverse (take (n - 1) xs)
reverse_taken xs zero some within = absurd (omega (arith, some))
reverse_taken xs (suc n) some within =
    let before : suc n - 1 ≡ n = omega arith in
    rw before (ap (λ (k : ℕ). reverse (take k xs)) (sym (add-one n))
    ∙ ap (λ (ys : List ℕ). reverse ys) (take_more xs n 0 (omega (arith, within)))
    ∙ reverse-append (take n xs) (get_or xs n 0 ∷ []))

pub pick_step : (xs ys : List ℕ) (n m : ℕ) → 0 < n → n ≤ length xs → 0 < m → m ≤ length ys
    → picks_cmp (take n xs) (take m ys) ≡ ordering_then (nat_cmp (get_or xs (n - 1) 0) (get_or ys (m - 1) 0)) (picks_cmp (take (n - 1) xs) (take (m - 1) ys))
pick_step xs ys n m some within other beside = rw (reverse_taken xs n some within, reverse_taken ys m other beside) refl

pub pick_more : (xs ys : List ℕ) (n m : ℕ) → 0 < n → n ≤ length xs → m ≡ 0 → picks_cmp (take n xs) (take m ys) ≡ Greater
pick_more xs ys n m some within none = rw (none, reverse_taken xs n some within) refl

pub pick_less : (xs ys : List ℕ) (n m : ℕ) → n ≡ 0 → 0 < m → m ≤ length ys → picks_cmp (take n xs) (take m ys) ≡ Less
pick_less xs ys n m none some within = rw (none, reverse_taken ys m some within) refl

pub pick_same : (xs ys : List ℕ) (n m : ℕ) → n ≡ 0 → m ≡ 0 → picks_cmp (take n xs) (take m ys) ≡ Equal
pick_same xs ys n m none neither = rw (none, neither) refl

pub pick_all : (xs ys : List ℕ) (n m : ℕ) → n ≡ length xs → m ≡ length ys → picks_cmp xs ys ≡ picks_cmp (take n xs) (take m ys)
pick_all xs ys n m all both = rw (take_all n xs (omega (arith, all)), take_all m ys (omega (arith, both))) refl

pub ruleset pick_steps = (pick_step, pick_more, pick_less, pick_same, pick_all)
