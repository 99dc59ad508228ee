-- The letter of T1 of a byte, cut out of all.
use Rattle.std.proofs.Common.{◌≡◌, ◌∙◌, ap, ℕ, List, ◌*◌, ◌-◌, take, drop}
use Rattle.pg_drawing.specs.Signs.{t1_letter, t1_letters}

pub letter_is : (all rest letter : List ℕ) (first c : ℕ) → all ≡ t1_letters → first ≡ 2 * (c - 128) →
    rest ≡ drop first all → letter ≡ take 2 rest → letter ≡ t1_letter c
letter_is all rest letter first c whole at behind is =
    is ∙ ap (take 2) (behind ∙ ap (λ n. drop n all) at ∙ ap (drop (2 * (c - 128))) whole)
