-- A list and its last element.
use Rattle.std.proofs.Common.{◌≡◌, ◌∙◌, sym, ap, arith, ◌+◌, ◌-◌, ◌≤◌, List, [], ◌∷◌, ◌++◌, length, take, get_or}
use Rattle.std.specs.Prelude.{reverse}
use Rattle.std.proofs.lemmas.List.{take_more, take_all, reverse-append}

pub split_last : {X : Type 0} (xs : List X) (d : X) → 1 ≤ length xs → xs ≡ take (length xs - 1) xs ++ get_or xs (length xs - 1) d ∷ []
split_last xs d some =
    let n = length xs - 1 in
    sym (take_all (n + 1) xs (omega arith)) ∙ take_more xs n d (omega arith)

pub reverse_last : {X : Type 0} (xs : List X) (d : X) → 1 ≤ length xs → reverse xs ≡ get_or xs (length xs - 1) d ∷ reverse (take (length xs - 1) xs)
reverse_last {X = X} xs d some = ap (λ (ys : List X). reverse ys) (split_last xs d some) ∙ reverse-append (take (length xs - 1) xs) (get_or xs (length xs - 1) d ∷ [])
