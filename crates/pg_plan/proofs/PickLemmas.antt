-- Picks, compared from the last.
use Rattle.std.proofs.Common.{◌≡◌, refl, ◌-◌, ◌≤◌, ℕ, List, [], ◌∷◌, length, take, get_or}
use Rattle.std.specs.Ordering.{nat_cmp, ordering_then}
use Rattle.std.specs.declared.cmp.Ordering.TheVariants.{Less, Equal, Greater}
use Rattle.pg_plan.specs.Order.{picks_cmp}
use Rattle.pg_plan.proofs.LastLemmas.{reverse_last}

pub pick_step : (xs ys : List ℕ) → 1 ≤ length xs → 1 ≤ length ys
    → picks_cmp xs ys ≡ ordering_then (nat_cmp (get_or xs (length xs - 1) 0) (get_or ys (length ys - 1) 0)) (picks_cmp (take (length xs - 1) xs) (take (length ys - 1) ys))
pick_step xs ys some others = rw (reverse_last xs 0 some, reverse_last ys 0 others) refl

pub pick_more : (xs ys : List ℕ) → 1 ≤ length xs → length ys ≡ 0 → picks_cmp xs ys ≡ Greater
pick_more xs [] some none = rw (reverse_last xs 0 some) refl
pick_more xs (y ∷ ys) some none = absurd (cc)

pub pick_less : (xs ys : List ℕ) → length xs ≡ 0 → 1 ≤ length ys → picks_cmp xs ys ≡ Less
pick_less [] ys none some = rw (reverse_last ys 0 some) refl
pick_less (x ∷ xs) ys none some = absurd (cc)

pub pick_same : (xs ys : List ℕ) → length xs ≡ 0 → length ys ≡ 0 → picks_cmp xs ys ≡ Equal
pick_same [] [] none others = refl
pick_same [] (y ∷ ys) none others = absurd (cc)
pick_same (x ∷ xs) ys none others = absurd (cc)

pub ruleset pick_lemmas = (pick_step, pick_more, pick_less, pick_same)
