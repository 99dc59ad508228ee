-- A list that is no older, told by its numbers.
use Rattle.std.proofs.Common.{◌≡◌, refl, ap, ◌∙◌, ℕ, suc, ◌<◌, ◌≤◌, List, [], ◌∷◌, length, arith, Bool, true}
use Rattle.std.specs.Prelude.{◌&&◌, get_or, nat_le}
use Rattle.pg_rules.specs.NoWorse.{are_no_older}

pub no_older : (xs ys : List ℕ) → length xs ≡ length ys → ((i : ℕ) → i < length xs → get_or xs i 0 ≤ get_or ys i 0) →
    are_no_older xs ys ≡ true
no_older [] [] e h = refl
no_older [] (y ∷ ys) e h = absurd (omega (arith, e))
no_older (x ∷ xs) [] e h = absurd (omega (arith, e))
no_older (x ∷ xs) (y ∷ ys) e h =
    let first : nat_le x y ≡ true = grind (arith, h 0 (omega arith)) in
    ap (λ (b : Bool). b && are_no_older xs ys) first
    ∙ no_older xs ys (omega (arith, e)) (λ i l. h (suc i) (omega (arith, l)))
